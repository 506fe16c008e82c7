-- The graphs and numbers of cases that are accepted.
use Rattle.std.specs.Prelude.{◌≡◌, ℕ, List, length}
use Rattle.net_base.specs.Network.{PlainNet}
use Rattle.policy_base.specs.Cases.{case_list}
use Rattle.policy_base.specs.Policies.{PlainPolicy}
use Rattle.graph_base.specs.Graphs.{PlainGraph}
use Rattle.graph_base.specs.declared.graph.Prefs.{Prefs}
use Rattle.case_evidence.specs.declared.accepted.AcceptedCase.{AcceptedCase}
use Rattle.compile_core.specs.Compiling.{AreAccepted, graphs_of, prefs_of, room_after}

-- The first k cases are accepted, with these graphs and numbers, and so much room is left.
pub record AreGiven (net : PlainNet) (policy : PlainPolicy) (k room : ℕ) (gs : List PlainGraph) (ps : List Prefs) : Type 0 where
  pub accepted : List AcceptedCase
  pub each : AreAccepted net policy accepted
  pub count : length accepted ≡ k
  pub left : room ≡ room_after accepted
  pub graphs : gs ≡ graphs_of accepted
  pub prefs : ps ≡ prefs_of accepted

-- all cases are
abbrev pub AreAllGiven : PlainNet → PlainPolicy → List PlainGraph → List Prefs → Type 0
AreAllGiven net policy gs ps = (room : ℕ) × AreGiven net policy (length (case_list net policy)) room gs ps
