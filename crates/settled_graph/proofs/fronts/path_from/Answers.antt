use Rattle.std.proofs.Common.{◌∷◌, [], ◌++◌, take, sym, ap, ◌∙◌}
use Rattle.std.proofs.lemmas.List.{take_more}
use Rattle.settled_graph.proofs.fronts.path_from.Goals as goal

pub loop-place-preserved : goal.loop-place-preserved
loop-place-preserved c =
    let rest = c.args.rest.now in
    let i = c.loop-place.place-index in
    let place = c.place-item.result in
    c.in_ok-push-2.ensures.ok ∙ ap (λ l. l ++ place ∷ []) c.loop-place.invariant ∙ ap (λ x. c.args.first ∷ (take i rest ++ x ∷ [])) c.place-item.is
    ∙ ap (λ l. c.args.first ∷ l) (sym (take_more rest i place c.loop-place-test.true))
