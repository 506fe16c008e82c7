use Rattle.std.proofs.Common.{[], ◌∷◌, ◌++◌}
use Rattle.std.proofs.lemmas.Result.{on_ok_weaker}
use Rattle.event_state.proofs.Written.{queue_changed}
use Rattle.event_state.proofs.world.World.post.Goals as goal

pub returns-clause-ok : goal.returns-clause-ok
returns-clause-ok c =
    on_ok_weaker c.push.result (queue_changed c.args.self.now c.args.from c.args.to c.way-place.result c.way-place.ensures.number c.way-place.ensures.within c.way-place.ensures.rules
    (λ ms. ms ++ c.args.message ∷ []) c.index_mut.result.now _ c.index_mut.ensures.value) c.push.ensures.ok
