use Rattle.std.proofs.Common.{◌≡◌, take}
use Rattle.std.specs.Prelude.{option_map}
use Rattle.net_base.specs.Locations.{neighbours}
use Rattle.event_base.specs.Speaking.{first_of, taken_by}
use Rattle.event_base.specs.World.{offers}
use Rattle.event_state.specs.Gifts.{gift_of}
use Rattle.event_state.specs.States.{speakers, state}
use Rattle.event_state.proofs.world.World.best.Given as goal

abbrev pub invariant-loop-from : goal.invariant-loop-from
invariant-loop-from l =
    option_map gift_of l.best
    ≡ first_of l.self.net.now
    (λ u. taken_by l.self.net.now l.self.config.now l.self.prefix l.at u (offers (speakers l.self) (state l.self) l.at u))
    (take l.from-index (neighbours l.self.net.now l.at))
