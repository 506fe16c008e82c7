-- The verdict on recorded routes: the first router at which they aren't stable, and why.
use Rattle.std.specs.Prelude.{◌≡◌, ℕ, ◌<◌, ◌≤◌, ◌↔◌, Bool, not, ◌&&◌, IsTrue, List, length, Option, Some, None}
use Rattle.net_base.specs.Network.{PlainNet, IsNet, is_router}
use Rattle.net_base.specs.Prefixes.{PlainPrefix, IsPrefix}
use Rattle.policy_base.specs.Policies.{IsPolicyOf, PlainPolicy}
use Rattle.policy_base.specs.Governing.{is_origin}
use Rattle.config_base.specs.declared.route.Route.{Route}
use Rattle.config_base.specs.Configs.{PlainConfig}
use Rattle.config_base.specs.Lines.{own_route}
use Rattle.evidence_base.specs.Made.{PlainCaseEvidence}
use Rattle.outcome_base.specs.Outcomes.{Failures, Outcome, is_dead, route_at, given, IsStable}
use Rattle.evidence_law.specs.Passes.{Passes}
use Rattle.outcome_base.specs.Right.{IsRightOutcome}
use Rattle.scenarios.specs.Tests.{IsSettledAt}
use Rattle.table_audit.specs.declared.verdict.AuditVerdict.{AuditVerdict}
use Rattle.table_audit.specs.declared.verdict.AuditVerdict.TheVariants.{Stable, Dead, Own, NotGiven, Better, Missing}

-- what a router is in these failures
abbrev pub is_live_origin : PlainNet → PlainPolicy → Failures → PlainPrefix → ℕ → Bool
is_live_origin net policy f p r = is_origin net policy p r && not (is_dead f r)

abbrev pub is_choosing : PlainNet → PlainPolicy → Failures → PlainPrefix → ℕ → Bool
is_choosing net policy f p r = not (is_origin net policy p r) && not (is_dead f r)

-- z gives r the highest preference that is given, and of several who give it z is the least
pub record IsTopGiver (net : PlainNet) (policy : PlainPolicy) (config : PlainConfig) (f : Failures) (p : PlainPrefix) (outcome : Outcome) (r z : ℕ) (g : Route) : Type 0 where
  pub gives : given net policy config f p outcome z r ≡ Some g
  pub highest : (y : ℕ) (k : Route) → given net policy config f p outcome y r ≡ Some k → k.pref ≤ g.pref
  pub least : (y : ℕ) (k : Route) → given net policy config f p outcome y r ≡ Some k → k.pref ≡ g.pref → z ≤ y

-- the router that a verdict names, and what it says of it
abbrev pub router_of : AuditVerdict → Option ℕ
router_of Stable = None
router_of (Dead r) = Some r
router_of (Own r) = Some r
router_of (NotGiven r) = Some r
router_of (Better r z pref) = Some r
router_of (Missing r z) = Some r

abbrev pub Fails : PlainNet → PlainPolicy → PlainConfig → Failures → PlainPrefix → Outcome → AuditVerdict → Type 0
Fails net policy config f p outcome Stable = ⊥
Fails net policy config f p outcome (Dead r) = IsTrue (is_dead f r) × ¬ (route_at outcome r ≡ None)
Fails net policy config f p outcome (Own r) = IsTrue (is_live_origin net policy f p r) × ¬ (route_at outcome r ≡ Some (own_route net config p r))
Fails net policy config f p outcome (NotGiven r) =
    IsTrue (is_choosing net policy f p r) × (h : Route) × (route_at outcome r ≡ Some h)
    × ((z : ℕ) → ¬ (given net policy config f p outcome z r ≡ Some h))
Fails net policy config f p outcome (Better r z pref) = IsTrue (is_choosing net policy f p r)
    × (h : Route) × (g : Route) × (y : ℕ) × (route_at outcome r ≡ Some h) × (given net policy config f p outcome y r ≡ Some h)
    × IsTopGiver net policy config f p outcome r z g × (g.pref ≡ pref) × (h.pref < pref)
Fails net policy config f p outcome (Missing r z) = IsTrue (is_choosing net policy f p r) × (route_at outcome r ≡ None) × (g : Route) × IsTopGiver net policy config f p outcome r z g

-- each router is settled
abbrev pub AreSettled : PlainNet → PlainPolicy → PlainConfig → Failures → PlainPrefix → Outcome → Type 0
AreSettled net policy config f p outcome = (r : ℕ) → IsTrue (is_router net r) → IsSettledAt net policy config f p outcome r

-- the verdict names a router, it fails there, and each router before it is settled
pub record IsFirstFailure (net : PlainNet) (policy : PlainPolicy) (config : PlainConfig) (f : Failures) (p : PlainPrefix) (outcome : Outcome) (v : AuditVerdict) (r : ℕ) : Type 0 where
  pub named : router_of v ≡ Some r
  pub router : IsTrue (is_router net r)
  pub fails : Fails net policy config f p outcome v
  pub before : (q : ℕ) → q < r → IsSettledAt net policy config f p outcome q

abbrev pub IsVerdict : PlainNet → PlainPolicy → PlainConfig → Failures → PlainPrefix → Outcome → AuditVerdict → Type 0
IsVerdict net policy config f p outcome Stable = AreSettled net policy config f p outcome
IsVerdict net policy config f p outcome v = (r : ℕ) × IsFirstFailure net policy config f p outcome v r

abbrev pub VerdictsAreOne : Type 0
VerdictsAreOne = (net : PlainNet) (policy : PlainPolicy) (config : PlainConfig) (f : Failures) (p : PlainPrefix) (outcome : Outcome) (a b : AuditVerdict)
    → IsVerdict net policy config f p outcome a → IsVerdict net policy config f p outcome b → a ≡ b

abbrev pub StableIsTold : Type 0
StableIsTold = (net : PlainNet) (policy : PlainPolicy) (config : PlainConfig) (f : Failures) (p : PlainPrefix) (outcome : Outcome) (v : AuditVerdict) → length outcome ≡ length net.routers
    → IsVerdict net policy config f p outcome v → ((v ≡ Stable) ↔ IsStable net policy config f p outcome)

-- Recorded routes that are stable are right, where the evidence passes.
abbrev pub StableTablesAreRight : Type 0
StableTablesAreRight = (net : PlainNet) (policy : PlainPolicy) (config : PlainConfig) (cs : List PlainCaseEvidence) → IsNet net → IsPolicyOf net policy → Passes net policy config cs
    → (p : PlainPrefix) (f : Failures) (outcome : Outcome) → IsPrefix p → length outcome ≡ length net.routers
    → IsVerdict net policy config f p outcome Stable → IsRightOutcome net policy config f p outcome
