use Rattle.std.proofs.Common.{◌<◌, ◌∙◌, arith, length, take}
use Rattle.std.specs.List.{list_all}
use Rattle.std.proofs.lemmas.Bool.{and_from}
use Rattle.std.proofs.lemmas.List.Folds.{list_all_more}
use Rattle.path_exprs.specs.Expression.{never}
use Rattle.path_terms.specs.Terms.{at}
use Rattle.path_terms.specs.Values.{values}
use Rattle.path_automata.specs.Sets.{sets_pass}
use Rattle.path_automata.proofs.classes.gather.Goals as goal

pub loop-number-preserved : goal.loop-number-preserved
loop-number-preserved c = λ p passed.
    let vs = values c.args.terms.now in
    let n = c.loop-number.number in
    let gathered = c.in_ok-add_set.ensures p passed in
    let earlier = c.loop-number.invariant p gathered.0 in
    let within : n < length vs = omega (arith, c.loop-number-test.true, c.len-number-end.ensures.len) in
    list_all_more (sets_pass p) vs n never within ∙ and_from (list_all (sets_pass p) (take n vs)) (sets_pass p (at vs n)) earlier (gathered.1 earlier)
