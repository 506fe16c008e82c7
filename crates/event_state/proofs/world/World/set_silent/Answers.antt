use Rattle.event_state.proofs.Written.{silent_written}
use Rattle.event_state.proofs.world.World.set_silent.Goals as goal

pub returns-clause-world : goal.returns-clause-world
returns-clause-world c = silent_written c.args.self.now c.args.router c.args.peer c.way-place.result c.way-place.ensures.number c.way-place.ensures.within c.way-place.ensures.rules c.args.silent
