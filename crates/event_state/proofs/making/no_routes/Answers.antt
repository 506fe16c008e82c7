use Rattle.std.proofs.Common.{◌++◌, ◌∷◌, [], None, ap, ◌∙◌}
use Rattle.std.proofs.lemmas.List.{replicate_more}
use Rattle.event_state.proofs.making.no_routes.Goals as goal

pub loop-preserved : goal.loop-preserved
loop-preserved c = c.in_ok-push.ensures.items ∙ ap (λ rs. rs ++ None ∷ []) c.loop.invariant ∙ replicate_more c.loop.counter None
