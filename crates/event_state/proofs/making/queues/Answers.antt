use Rattle.std.proofs.Common.{◌++◌, ◌∷◌, [], ap, ◌∙◌}
use Rattle.std.proofs.lemmas.List.{replicate_more}
use Rattle.event_state.proofs.making.queues.Goals as goal

pub loop-preserved : goal.loop-preserved
loop-preserved c =
    c.in_ok-push.ensures.items
    ∙ ap (λ q. c.loop.all.items ++ q ∷ []) c.new.ensures
    ∙ ap (λ qs. qs ++ [] ∷ []) c.loop.invariant
    ∙ replicate_more c.loop.counter []
