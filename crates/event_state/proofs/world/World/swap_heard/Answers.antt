use Rattle.event_state.proofs.Written.{heard_written}
use Rattle.event_state.proofs.world.World.swap_heard.Goals as goal

pub returns-clause-world : goal.returns-clause-world
returns-clause-world c =
    heard_written c.args.self.now c.args.from c.args.to c.way-place.result c.way-place.ensures.number c.way-place.ensures.within c.way-place.ensures.rules
    c.args.message.now _ c.swap.ensures.x_after
