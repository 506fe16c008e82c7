use Rattle.event_state.proofs.Written.{cut_written}
use Rattle.event_state.proofs.world.World.set_cut.Goals as goal

pub returns-clause-world : goal.returns-clause-world
returns-clause-world c = cut_written c.args.self.now c.args.from c.args.to c.way-place.result c.way-place.ensures.number c.way-place.ensures.within c.way-place.ensures.rules c.args.cut
