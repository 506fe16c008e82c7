-- A network that comes to rest is quiet after as many rounds as are enough for it.
use Rattle.std.proofs.Common.{ℕ, List, sym, subst}
use Rattle.net_base.specs.Network.{PlainNet, IsNet}
use Rattle.net_base.specs.Prefixes.{PlainPrefix}
use Rattle.policy_base.specs.Policies.{PlainPolicy}
use Rattle.config_base.specs.declared.route.Route.{Route}
use Rattle.config_base.specs.Configs.{PlainConfig}
use Rattle.event_base.specs.declared.event.Event.{Event}
use Rattle.event_base.specs.Speaking.{speakers_of}
use Rattle.event_base.specs.Steps.{IsQuiet, opening}
use Rattle.event_base.specs.World.{Speakers, World}
use Rattle.event_law.specs.Kept.{AreSpeakers}
use Rattle.event_law.proofs.Keeping.{opening-keeps, run-keeps}
use Rattle.event_rounds.specs.Resting.{rounds_in, world_in}
use Rattle.rest_law.proofs.Ended.{ways_listed}
use Rattle.rest_law.proofs.Ending.{run_on}
use Rattle.rest_law.specs.Rest.{ComesToRest, rounds_enough}
use Rattle.rest_law.specs.Ways.{each_way}
use Rattle.rest_law.proofs.Present.{rounds_go_on}
use Rattle.rest_law.specs.Rounds.{AreRounds, deliveries}
use Rattle.event_law.proofs.Quiet.{are_speakers}
use Rattle.event_law.proofs.Scenario.{worlds_have_scenarios}
use Rattle.event_law.specs.Laws.{world_after}
use Rattle.event_law.specs.Scenarios.{scenario_of}

module _ (net : PlainNet) (policy : PlainPolicy) (config : PlainConfig) (p : PlainPrefix) (rules : IsNet net) (es : List Event) where
  abbrev S : Speakers Route
  S = speakers_of net policy config p

  abbrev w : World Route
  w = world_after net policy config p es

  -- each of the rounds is one
  pub are_rounds : (k : ℕ) → AreRounds S k w (rounds_in net.links S k w)
  are_rounds k =
      let speak : AreSpeakers S = are_speakers net policy config p rules in
      rounds_go_on S speak (each_way net.links) (ways_listed net.links) k w (run-keeps S speak es (opening S) (opening-keeps S speak))

  pub enough_are_quiet : ComesToRest net policy config p → IsQuiet (world_in net.links S (rounds_enough net) w)
  enough_are_quiet rests =
      let ds = rounds_in net.links S (rounds_enough net) w in
      let rest = rests.rounds es (scenario_of net w) ds (worlds_have_scenarios net policy config p es rules) (are_rounds (rounds_enough net)) in
      subst (λ (v : World Route). IsQuiet v) (sym (run_on S es (deliveries ds) (opening S))) rest.quiet
