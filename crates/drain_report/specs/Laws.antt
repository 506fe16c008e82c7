-- What a cut moves: nothing where nothing goes over it, and else something.
use Rattle.std.specs.Prelude.{◌≡◌, ◌≢◌, ◌↔◌, ℕ, IsTrue, List, length, Some}
use Rattle.net_base.specs.Network.{PlainNet, IsNet}
use Rattle.net_base.specs.Prefixes.{PlainPrefix, IsPrefix}
use Rattle.policy_base.specs.Policies.{PlainPolicy, IsPolicyOf}
use Rattle.config_base.specs.declared.route.Route.{Route}
use Rattle.config_base.specs.Configs.{PlainConfig}
use Rattle.evidence_base.specs.Made.{PlainCaseEvidence}
use Rattle.evidence_law.specs.Passes.{Passes}
use Rattle.outcome_base.specs.Outcomes.{Failures, Outcome, route_at}
use Rattle.settled_law.specs.Settled.{IsFullyStable}
use Rattle.impact_law.specs.Cuts.{with_cut}
use Rattle.impact_law.specs.declared.impact.Cut.{Cut}
use Rattle.drain_report.specs.declared.drained.Drain.{Drain}
use Rattle.drain_report.specs.DrainFree.{IsDrain, IsFree, KeepsRoutes}
use Rattle.drain_report.specs.Uses.{IsOffRoutes, IsUnused, goes_over, is_other}

-- Where no other router's settled route goes over a cut, every other router keeps its route.
abbrev pub CutsOffRoutesMoveNothing : Type 0
CutsOffRoutesMoveNothing = (net : PlainNet) (policy : PlainPolicy) (config : PlainConfig) (cs : List PlainCaseEvidence) → IsNet net → IsPolicyOf net policy → Passes net policy config cs
    → (p : PlainPrefix) (f : Failures) (cut : Cut) (before after : Outcome) → IsPrefix p → length before ≡ length net.routers → length after ≡ length net.routers
    → IsFullyStable net policy config f p before → IsFullyStable net policy config (with_cut cut f) p after
    → IsOffRoutes net before cut → KeepsRoutes net cut before after

-- Each other router whose route goes over it gets another route, or none.
abbrev pub CutsOnARouteMoveIt : Type 0
CutsOnARouteMoveIt = (net : PlainNet) (policy : PlainPolicy) (config : PlainConfig) (cs : List PlainCaseEvidence) → IsNet net → IsPolicyOf net policy → Passes net policy config cs
    → (p : PlainPrefix) (f : Failures) (cut : Cut) (before after : Outcome) → IsPrefix p
    → IsFullyStable net policy config f p before → IsFullyStable net policy config (with_cut cut f) p after
    → (r : ℕ) (h : Route) → IsTrue (is_other net cut r) → route_at before r ≡ Some h → IsTrue (goes_over cut h.path) → route_at after r ≢ route_at before r

-- What is free is what nothing goes over.
abbrev pub FreeIsUnused : Type 0
FreeIsUnused = (net : PlainNet) (policy : PlainPolicy) (config : PlainConfig) (cs : List PlainCaseEvidence) → IsNet net → IsPolicyOf net policy → Passes net policy config cs
    → (p : PlainPrefix) (f : Failures) (cut : Cut) (outcome : Outcome) → IsPrefix p → length outcome ≡ length net.routers → IsFullyStable net policy config f p outcome
    → IsFree net policy config f p outcome cut ↔ IsUnused net policy config f p outcome cut

-- An outcome has one drain.
abbrev pub DrainsAreOne : Type 0
DrainsAreOne = (net : PlainNet) (policy : PlainPolicy) (config : PlainConfig) (f : Failures) (p : PlainPrefix) (outcome : Outcome) (a b : Drain)
    → IsDrain net policy config f p outcome a → IsDrain net policy config f p outcome b → a ≡ b
