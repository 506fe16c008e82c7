use Rattle.std.proofs.Common.{take}
use Rattle.net_base.specs.Locations.{neighbours}
use Rattle.event_core.proofs.Linkwise.{to_some}
use Rattle.event_core.proofs.Making.{Made}
use Rattle.event_core.proofs.changing.Changing.to_links.Given as goal

abbrev pub invariant-loop-place : goal.invariant-loop-place
invariant-loop-place l = Made (to_some l.fn.deed l.fn.at (take l.place (neighbours l.fn.self.world.now.net.now l.fn.at))) l.fn.self l.self
