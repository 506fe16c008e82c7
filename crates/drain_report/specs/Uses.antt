-- What goes over a cut: the routes that routers hold, and what peers are offered.
use Rattle.std.specs.Prelude.{◌≡◌, ℕ, Bool, false, not, ◌&&◌, ◌==◌, IsTrue, List, Some}
use Rattle.std.specs.List.{list_any}
use Rattle.net_base.specs.Network.{PlainNet, is_router, joins}
use Rattle.net_base.specs.Prefixes.{PlainPrefix}
use Rattle.policy_base.specs.Meaning.{some_step}
use Rattle.policy_base.specs.Policies.{PlainPolicy}
use Rattle.config_base.specs.declared.route.Route.{Route}
use Rattle.config_base.specs.Configs.{PlainConfig}
use Rattle.outcome_base.specs.Outcomes.{Failures, Outcome, offered, route_at}
use Rattle.impact_law.specs.Cuts.{is_cut}
use Rattle.impact_law.specs.declared.impact.Cut.{Cut}
use Rattle.impact_law.specs.declared.impact.Cut.TheVariants.{Link, Router}

-- a router that isn't cut
abbrev pub is_other : PlainNet → Cut → ℕ → Bool
is_other net cut r = is_router net r && not (is_cut cut r)

-- the path goes over the link, or over the router
abbrev pub goes_over : Cut → List ℕ → Bool
goes_over (Link a b) path = some_step (λ l k. joins l k (a, b)) path
goes_over (Router x) path = list_any (λ l. x == l) path

-- no other router's route goes over the cut
abbrev pub IsOffRoutes : PlainNet → Outcome → Cut → Type 0
IsOffRoutes net outcome cut = (r : ℕ) (h : Route) → IsTrue (is_other net cut r) → route_at outcome r ≡ Some h → goes_over cut h.path ≡ false

-- Nothing goes over the cut: no other router's route, and nothing that a peer is offered. What a router offers goes over the router itself,
-- and over its link to the peer.
pub record IsUnused (net : PlainNet) (policy : PlainPolicy) (config : PlainConfig) (f : Failures) (p : PlainPrefix) (outcome : Outcome) (cut : Cut) : Type 0 where
  pub routes : IsOffRoutes net outcome cut
  pub offers : (r peer : ℕ) (path : List ℕ) → offered net policy config f p outcome r peer ≡ Some path → goes_over cut path ≡ false
