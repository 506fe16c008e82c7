use Rattle.std.proofs.Common.{◌++◌, ◌∷◌, [], ℕ, List, get_or, map, take, ap, sym, ◌∙◌}
use Rattle.std.proofs.lemmas.List.{map-append, take_all, take_more}
use Rattle.path_automata.proofs.starts.picked.Goals as goal

pub loop-i-preserved : goal.loop-i-preserved
loop-i-preserved c =
    let term = λ (n : ℕ). get_or c.args.terms.now n 0 in
    let places = c.args.places.now in
    let i = c.loop-i.i in
    let place = get_or places i 0 in
    c.in_ok-push.ensures.items
    ∙ ap (λ (l : List ℕ). l ++ term place ∷ []) c.loop-i.invariant
    ∙ sym (ap (map term) (take_more places i 0 c.loop-i-test.true) ∙ map-append term (take i places) (place ∷ []))

pub returns : goal.returns
returns c = c.loop-i.invariant ∙ ap (map (λ n. get_or c.args.terms.now n 0)) (take_all c.loop-i.i c.args.places.now c.loop-i-test.false)
