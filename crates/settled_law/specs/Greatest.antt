-- The preference of a router's route among the numbers of the nodes that are reached at it.
use Rattle.std.specs.Prelude.{◌≡◌, ℕ, suc, ◌≤◌, not, ◌&&◌, IsTrue, List, ◌∷◌, Some, slice_get}
use Rattle.net_base.specs.Network.{PlainNet, IsNet, is_router}
use Rattle.net_base.specs.Prefixes.{PlainPrefix, IsPrefix}
use Rattle.policy_base.specs.Policies.{PlainPolicy, IsPolicyOf}
use Rattle.policy_base.specs.Governing.{is_origin}
use Rattle.graph_base.specs.Runs.{run}
use Rattle.config_base.specs.declared.route.Route.{Route}
use Rattle.config_base.specs.Configs.{PlainConfig}
use Rattle.config_base.specs.Lines.{class_of}
use Rattle.evidence_base.specs.Made.{PlainCaseEvidence, number_at, tag_at}
use Rattle.outcome_base.specs.Outcomes.{Failures, Outcome, route_at, survives, IsStable}
use Rattle.evidence_law.specs.Passes.{Passes}

-- A node is reached at r: the run along a path that survives ends in it. The path may pass a location more than once.
abbrev pub IsReachedAt : PlainNet → Failures → PlainCaseEvidence → ℕ → ℕ → Type 0
IsReachedAt net f c r n = (rest : List ℕ) × (run c.graph (r ∷ rest) ≡ Some n) × IsTrue (survives net f (r ∷ rest))

-- For every router that isn't an origin:
pub record AreGreatest (net : PlainNet) (policy : PlainPolicy) (f : Failures) (p : PlainPrefix) (c : PlainCaseEvidence) (outcome : Outcome) : Type 0 where
  -- where a node is reached it has a route, and of no lower a preference than the node's number;
  pub over : (r n : ℕ) → IsTrue (is_router net r && not (is_origin net policy p r)) → IsReachedAt net f c r n → (h : Route) × (route_at outcome r ≡ Some h) × (number_at c n ≤ h.pref)
  -- and its route's path survives and runs to a node, whose tag and number it has.
  pub own : (r : ℕ) (h : Route) → IsTrue (is_router net r && not (is_origin net policy p r)) → route_at outcome r ≡ Some h
      → (n : ℕ) × (run c.graph h.path ≡ Some n) × IsTrue (survives net f h.path) × (h.tag ≡ tag_at c n) × (h.pref ≡ number_at c n)

-- In every stable outcome.
abbrev pub NumbersAreGreatest : Type 0
NumbersAreGreatest = (net : PlainNet) (policy : PlainPolicy) (config : PlainConfig) (cs : List PlainCaseEvidence) → IsNet net → IsPolicyOf net policy → Passes net policy config cs
    → (p : PlainPrefix) (f : Failures) (outcome : Outcome) (k : ℕ) (c : PlainCaseEvidence) → IsPrefix p → IsStable net policy config f p outcome
    → class_of config p ≡ Some (suc k) → slice_get cs k ≡ Some c
    → AreGreatest net policy f p c outcome
