use Rattle.std.proofs.Common.{drop}
use Rattle.event_state.proofs.Written.{queue_changed}
use Rattle.event_state.proofs.world.World.pop.Goals as goal

pub returns-clause-world : goal.returns-clause-world
returns-clause-world c =
    queue_changed c.args.self.now c.args.from c.args.to c.way-place.result c.way-place.ensures.number c.way-place.ensures.within c.way-place.ensures.rules
    (drop 1) c.index_mut.result.now _ c.index_mut.ensures.value c.pop.ensures
