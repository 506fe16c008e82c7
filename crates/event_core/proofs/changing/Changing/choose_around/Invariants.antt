use Rattle.std.proofs.Common.{take}
use Rattle.net_base.specs.Locations.{neighbours}
use Rattle.event_base.specs.World.{each_again}
use Rattle.event_core.proofs.Making.{Made}
use Rattle.event_core.proofs.changing.Changing.choose_around.Given as goal

abbrev pub invariant-loop-place : goal.invariant-loop-place
invariant-loop-place l = Made (λ net. each_again net (take l.place (neighbours l.fn.self.world.now.net.now l.fn.at))) l.fn.self l.self
