-- A world that is kept by lists: routers and peers by their number, sessions by the directions of their links.
use Rattle.std.specs.Prelude.{Bool, false, List, [], Option, None, slice_index_or}
use Rattle.net_base.specs.Network.{PlainNet}
use Rattle.policy_base.specs.Policies.{PlainPolicy, policy_of}
use Rattle.net_base.specs.Prefixes.{PlainPrefix}
use Rattle.config_base.specs.Configs.{PlainConfig}
use Rattle.config_base.specs.declared.route.Route.{Route}
use Rattle.event_base.specs.World.{Speakers, World}
use Rattle.event_base.specs.Speaking.{speakers_of}
use Rattle.event_state.specs.declared.world.World.{World as Kept}
use Rattle.event_state.specs.Directions.{at_direction}

-- marks and routes by location; the rest by direction
abbrev pub state_of : PlainNet → List Bool → List (Option Route) → List Bool → List Bool → List (List (Option Route)) → List (Option Route) → List (Option Route) → World Route
state_of net down routes cut silent queues heard queued = record {
  down = λ r. slice_index_or down r false;
  cut = at_direction net cut false;
  silent = at_direction net silent false;
  queue = at_direction net queues [];
  heard = at_direction net heard None;
  queued = at_direction net queued None;
  route = λ r. slice_index_or routes r None;
}

-- how a network stands, and what its routers and peers say and choose
abbrev pub state : Kept → World Route
state w = state_of w.net.now w.down.items w.routes.items w.cut.items w.silent.items w.queues.items w.heard.items w.queued.items

abbrev pub speakers : Kept → Speakers Route
speakers w = speakers_of w.net.now (policy_of w.policy.now) w.config.now w.prefix

-- what no event changes
abbrev pub setting : Kept → PlainNet × PlainPolicy × PlainConfig × PlainPrefix
setting w = (w.net.now, policy_of w.policy.now, w.config.now, w.prefix)

-- everything is up, no peer is silent, no router has a route, and nobody has queued or heard anything
abbrev pub blank : World Route
blank = record {
  down = λ r. false;
  cut = λ a b. false;
  silent = λ r p. false;
  queue = λ a b. [];
  heard = λ a b. None;
  queued = λ a b. None;
  route = λ r. None;
}
