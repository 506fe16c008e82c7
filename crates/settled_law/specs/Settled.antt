-- A stable outcome in which ties are broken: preference, then fewer AS numbers, then the lower identifier of the neighbour.
use Rattle.std.specs.Prelude.{◌≡◌, ℕ, ◌≤◌, not, ◌&&◌, IsTrue, List, length, Some}
use Rattle.net_base.specs.Network.{PlainNet, IsNet, is_router, id_of}
use Rattle.net_base.specs.Prefixes.{PlainPrefix, IsPrefix}
use Rattle.policy_base.specs.Policies.{PlainPolicy, IsPolicyOf}
use Rattle.policy_base.specs.Governing.{is_origin}
use Rattle.config_base.specs.declared.route.Route.{Route}
use Rattle.config_base.specs.Configs.{PlainConfig}
use Rattle.evidence_base.specs.Made.{PlainCaseEvidence}
use Rattle.outcome_base.specs.Outcomes.{Failures, Outcome, is_dead, route_at, given, IsStable}
use Rattle.evidence_law.specs.Passes.{Passes}
use Rattle.routing_law.specs.Network.{giver}

-- h comes no later than g
pub record IsNoLater (net : PlainNet) (h g : Route) : Type 0 where
  pub higher : g.pref ≤ h.pref
  pub fewer : g.pref ≡ h.pref → length h.path ≤ length g.path
  pub lower : g.pref ≡ h.pref → length h.path ≡ length g.path → id_of net (giver h.path) ≤ id_of net (giver g.path)

pub record IsFullyStable (net : PlainNet) (policy : PlainPolicy) (config : PlainConfig) (f : Failures) (p : PlainPrefix) (outcome : Outcome) : Type 0 where
  pub stable : IsStable net policy config f p outcome
  pub first : (r z : ℕ) (h g : Route) → IsTrue (is_router net r && not (is_origin net policy p r) && not (is_dead f r)) → route_at outcome r ≡ Some h
      → given net policy config f p outcome z r ≡ Some g → IsNoLater net h g

-- Whatever fails, there is such an outcome for every prefix,
abbrev pub SettledOutcomesExist : Type 0
SettledOutcomesExist = (net : PlainNet) (policy : PlainPolicy) (config : PlainConfig) (cs : List PlainCaseEvidence) → IsNet net → IsPolicyOf net policy → Passes net policy config cs
    → (p : PlainPrefix) (f : Failures) → IsPrefix p → (outcome : Outcome) × (length outcome ≡ length net.routers) × IsFullyStable net policy config f p outcome

-- and it's the only one.
abbrev pub SettledOutcomesAreOne : Type 0
SettledOutcomesAreOne = (net : PlainNet) (policy : PlainPolicy) (config : PlainConfig) (cs : List PlainCaseEvidence) → IsNet net → IsPolicyOf net policy → Passes net policy config cs
    → (p : PlainPrefix) (f : Failures) → IsPrefix p → (a b : Outcome) → length a ≡ length net.routers → length b ≡ length net.routers
    → IsFullyStable net policy config f p a → IsFullyStable net policy config f p b → a ≡ b
