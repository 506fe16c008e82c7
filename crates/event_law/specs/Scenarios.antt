-- The scenario of a world.
use Rattle.std.specs.Prelude.{◌≡◌, ℕ, IsTrue, ◌++◌, length, map, filter}
use Rattle.net_base.specs.Network.{PlainNet, linked}
use Rattle.net_base.specs.Locations.{numbers_below}
use Rattle.config_base.specs.declared.route.Route.{Route}
use Rattle.outcome_base.specs.Outcomes.{Failures, Outcome, is_dead, is_dead_link, is_silent}
use Rattle.event_base.specs.World.{World}

-- what is down, cut and silent in a world
pub record IsScenarioOf (net : PlainNet) (w : World Route) (f : Failures) : Type 0 where
  pub dead : (l : ℕ) → is_dead f l ≡ w.down l
  pub links : (a b : ℕ) → IsTrue (linked net a b) → is_dead_link f a b ≡ w.cut a b
  pub silent : (r q : ℕ) → IsTrue (linked net q r) → is_silent f r q ≡ w.silent r q

-- and its routes, one entry a router
abbrev pub routes_of : PlainNet → World Route → Outcome
routes_of net w = map w.route (numbers_below (length net.routers))

-- its scenario, as lists
abbrev pub scenario_of : PlainNet → World Route → Failures
scenario_of net w = record {
  dead = filter w.down (numbers_below (length net.routers));
  dead_links = filter (λ (l : ℕ × ℕ). w.cut l.0 l.1) net.links;
  silent = filter (λ (s : ℕ × ℕ). w.silent s.0 s.1) (net.links ++ map (λ (l : ℕ × ℕ). (l.1, l.0)) net.links);
}
