use Rattle.event_state.proofs.Written.{queue_written}
use Rattle.event_state.proofs.world.World.swap_queue.Goals as goal

pub returns-clause-world : goal.returns-clause-world
returns-clause-world c =
    queue_written c.args.self.now c.args.from c.args.to c.way-place.result c.way-place.ensures.number c.way-place.ensures.within c.way-place.ensures.rules
    c.args.queue.now _ c.swap.ensures.x_after
