-- Numbers on one faithful graph make the greatest relation of each total.
use Rattle.std.proofs.Common.{ℕ, Bool, inl, inr, ◌∙◌}
use Rattle.net_base.specs.declared.loc.LocSet.{LocSet}
use Rattle.net_base.specs.Network.{PlainNet}
use Rattle.policy_base.specs.Policies.{PlainStatement}
use Rattle.graph_base.specs.Graphs.{PlainGraph, IsGraph}
use Rattle.evidence_law.specs.Faithful.{IsFaithful}
use Rattle.relation_law.specs.Numbers.{AreNumbers}
use Rattle.relation_law.specs.Relations.{IsGreatest, IsTotal}
use Rattle.relation_law.specs.Rounds.{IsReach, left_after}
use Rattle.relation_law.specs.Views.{view_of}
use Rattle.relation_law.proofs.Counts.{one_greatest}
use Rattle.relation_law.proofs.Rounds.{settled_is_greatest}
use Rattle.quotient_law.specs.Alike.{EndBoth}
use Rattle.quotient_law.proofs.Carried.{total_there}
use Rattle.quotient_law.proofs.Settled.{settles}
use Rattle.quotient_law.proofs.Tied.{are_alike}

pub total_on_each : (net : PlainNet) (s : PlainStatement) (origin : ℕ → Bool) (external : Bool) (g q : PlainGraph) (claimed : LocSet) (reach : ℕ → ℕ → Bool) (number : ℕ → ℕ) (r : ℕ → ℕ → Bool)
    → IsGraph g → IsGraph q → IsFaithful net s origin external g → IsFaithful net s origin external q
    → IsReach (view_of q claimed) reach → AreNumbers (view_of g claimed) number → IsGreatest (view_of q claimed) r → IsTotal (view_of q claimed) r
total_on_each net s origin external g q claimed reach number r gg qq fg fq exact are greatest m n pair =
    let w = view_of q claimed in
    let end = settles w reach in
    let left : IsGreatest w (left_after w reach end.0) = settled_is_greatest w reach exact end.0 end.1 in
    elim (total_there (view_of g claimed) w (EndBoth g q) (are_alike net s origin external g q gg qq fg fq claimed) reach exact number are end.0 m n pair) [
      | inl t ↦ inl (one_greatest w r (left_after w reach end.0) greatest left m n ∙ t)
      | inr t ↦ inr (one_greatest w r (left_after w reach end.0) greatest left n m ∙ t)
    ]
