-- A network comes to rest: where nothing more fails and messages are delivered, they end, and what is left is the one settled outcome.
use Rattle.std.specs.Prelude.{◌≡◌, ℕ, suc, ◌≤◌, ◌+◌, ◌*◌, IsTrue, List, ◌∷◌, ◌++◌, length, option_map}
use Rattle.net_base.specs.Network.{PlainNet, is_peer, is_router}
use Rattle.net_base.specs.Prefixes.{PlainPrefix, IsPrefix}
use Rattle.policy_base.specs.Policies.{PlainPolicy}
use Rattle.config_base.specs.declared.route.Route.{Route}
use Rattle.config_base.specs.Configs.{PlainConfig}
use Rattle.outcome_base.specs.Outcomes.{Failures, Outcome, offered}
use Rattle.event_base.specs.declared.event.Event.{Event}
use Rattle.event_base.specs.Speaking.{speakers_of}
use Rattle.event_base.specs.Steps.{IsQuiet}
use Rattle.event_base.specs.World.{World}
use Rattle.rest_law.specs.Rounds.{AreRounds, IsFair, deliveries, stretch}
use Rattle.settled_law.specs.Settled.{IsFullyStable}
use Rattle.event_law.specs.Laws.{world_after}
use Rattle.event_law.specs.Scenarios.{IsScenarioOf, routes_of}

-- The world is at rest, where f is what has failed in it:
pub record IsAtRest (net : PlainNet) (policy : PlainPolicy) (config : PlainConfig) (p : PlainPrefix) (f : Failures) (w : World Route) : Type 0 where
  -- no message waits,
  pub quiet : IsQuiet w
  -- the routes that are held are a settled outcome,
  pub settled : IsFullyStable net policy config f p (routes_of net w)
  -- there is no other one,
  pub alone : (other : Outcome) → length other ≡ length net.routers → IsFullyStable net policy config f p other → other ≡ routes_of net w
  -- and what each peer has last heard from a router is what the router offers it in that outcome.
  pub heard : (r peer : ℕ) → IsTrue (is_router net r) → IsTrue (is_peer net peer) → option_map (λ (m : Route). peer ∷ m.path) (w.heard r peer) ≡ offered net policy config f p (routes_of net w) r peer

-- So many rounds of deliveries are enough: R * (R + 3) + 1, for R routers.
abbrev pub rounds_enough : PlainNet → ℕ
rounds_enough net = suc (length net.routers * (length net.routers + 3))

-- The network comes to rest for a prefix. Whatever events have happened, and whatever has failed by then:
pub record ComesToRest (net : PlainNet) (policy : PlainPolicy) (config : PlainConfig) (p : PlainPrefix) : Type 0 where
  -- after so many rounds, and after all further deliveries, it is at rest;
  pub rounds : (es : List Event) (f : Failures) (ds : List (ℕ × ℕ)) → IsScenarioOf net (world_after net policy config p es) f
      → AreRounds (speakers_of net policy config p) (rounds_enough net) (world_after net policy config p es) ds → IsAtRest net policy config p f (world_after net policy config p (es ++ deliveries ds))
  -- some deliveries lead to rest;
  pub reached : (es : List Event) (f : Failures) → IsScenarioOf net (world_after net policy config p es) f
      → (ds : List (ℕ × ℕ)) × IsAtRest net policy config p f (world_after net policy config p (es ++ deliveries ds))
  -- and each endless schedule that forgets no direction of a link for ever leads there, and stays.
  pub fair : (es : List Event) (f : Failures) (schedule : ℕ → ℕ × ℕ) → IsScenarioOf net (world_after net policy config p es) f → IsFair (speakers_of net policy config p) schedule
      → (n : ℕ) × ((m : ℕ) → n ≤ m → IsAtRest net policy config p f (world_after net policy config p (es ++ deliveries (stretch schedule 0 m))))

-- for every prefix
abbrev pub AlwaysComesToRest : PlainNet → PlainPolicy → PlainConfig → Type 0
AlwaysComesToRest net policy config = (p : PlainPrefix) → IsPrefix p → ComesToRest net policy config p
