use Rattle.std.proofs.Common.{◌≡◌, ◌-◌, [], ◌∷◌, ◌++◌, Some, List, length, refl, rules, subst, sym, ◌∙◌, map-id}
use Rattle.std.specs.Prelude.{slice_get}
use Rattle.std.proofs.lemmas.Iterator.Adapters.{YieldsList-from_vec}
use Rattle.std.proofs.lemmas.Iterator.Consumers.{YieldsList-turn, YieldsList-end}
use Rattle.std.proofs.lemmas.Option.{slice_get_read}
use Rattle.list_law.proofs.Exits.{passed_on}
use Rattle.compare_base.specs.declared.pairs.Pair.{Pair}
use Rattle.comparison.specs.declared.values.ComparedPair.{ComparedPair}
use Rattle.comparison_maker.specs.declared.limits.TheConstants.{PAIR_STEPS}
use Rattle.comparison_maker.proofs.Comparing.{AreComparedTo, none_yet, one_more, refused_next, whole, within_limit}
use Rattle.comparison_maker.proofs.changes.compared_pairs.Goals as goal

pub loop-pair-init : goal.loop-pair-init
loop-pair-init c = λ old new both.
    subst (λ (xs : List ComparedPair). AreComparedTo c.args.net.now old new c.args.pairs [] xs PAIR_STEPS) (sym c.new-all.ensures) (none_yet c.args.net.now old new c.args.pairs)

pub returns-in_err-given-clause-refused : goal.returns-in_err-given-clause-refused
returns-in_err-given-clause-refused c = λ old new both are.
    let pairs = c.args.pairs in
    let done = c.loop-pair.yielded in
    let here = YieldsList-turn (YieldsList-from_vec {s = c.into_iter-pair-iterator.result} pairs (search rules) (search rules))
    done c.loop-pair.pair-iterator c.loop-pair.yielded_by c.next.result c.next.new.self c.in-Some.pair c.in-Some.is c.next.ensures.steps in
    let next : slice_get pairs (length done) ≡ Some c.in-Some.pair = slice_get_read pairs (length pairs) (length done) c.in-Some.pair refl here.0 here.1 in
    let why = refused_next c.args.net.now old new pairs c.args.graphs.now done c.loop-pair.all c.loop-pair.room c.in-Some.pair c.in_err-given.field-0.0 both are
    (c.loop-pair.invariant old new both) next (c.in_err-given.ensures.many old new both) in
    rw (passed_on c.from_residual.result c.from_residual.ensures.1) why

pub loop-pair-preserved : goal.loop-pair-preserved
loop-pair-preserved c = λ old new both.
    let pairs = c.args.pairs in
    let done = c.loop-pair.yielded in
    let here = YieldsList-turn (YieldsList-from_vec {s = c.into_iter-pair-iterator.result} pairs (search rules) (search rules))
    done c.loop-pair.pair-iterator c.loop-pair.yielded_by c.next.result c.next.new.self c.in-Some.pair c.in-Some.is c.next.ensures.steps in
    let next : slice_get pairs (length done) ≡ Some c.in-Some.pair = slice_get_read pairs (length pairs) (length done) c.in-Some.pair refl here.0 here.1 in
    let given = c.in_ok-given.given in
    let left = c.loop-pair.room - given.used in
    let more = one_more c.args.net.now old new pairs done c.loop-pair.all c.loop-pair.room given.used left c.in-Some.pair given.change
    (c.loop-pair.invariant old new both) next (c.in_ok-given.ensures.change old new both) (c.in_ok-given.ensures.used old new both) c.in_ok-given.ensures.room refl in
    subst (λ (xs : List ComparedPair). AreComparedTo c.args.net.now old new pairs (done ++ c.in-Some.pair ∷ []) xs left) (sym c.in_ok-push.ensures.ok) more

pub returns-clause-compared : goal.returns-clause-compared
returns-clause-compared c = λ old new both are.
    let pairs = c.args.pairs in
    let end = YieldsList-end (YieldsList-from_vec {s = c.into_iter-pair-iterator.result} pairs (search rules) (search rules))
    c.loop-pair.yielded c.loop-pair.pair-iterator c.loop-pair.yielded_by c.next.result c.next.new.self c.in-None.is c.next.ensures.steps in
    let all = sym (map-id c.loop-pair.yielded) ∙ end.0 in
    whole c.args.net.now old new pairs are c.loop-pair.all c.loop-pair.room
    (subst (λ (done : List Pair). AreComparedTo c.args.net.now old new pairs done c.loop-pair.all c.loop-pair.room) all (c.loop-pair.invariant old new both))

pub returns-clause-within : goal.returns-clause-within
returns-clause-within c = λ old new both are.
    let pairs = c.args.pairs in
    let end = YieldsList-end (YieldsList-from_vec {s = c.into_iter-pair-iterator.result} pairs (search rules) (search rules))
    c.loop-pair.yielded c.loop-pair.pair-iterator c.loop-pair.yielded_by c.next.result c.next.new.self c.in-None.is c.next.ensures.steps in
    let all = sym (map-id c.loop-pair.yielded) ∙ end.0 in
    within_limit c.args.net.now old new pairs are c.loop-pair.all c.loop-pair.room
    (subst (λ (done : List Pair). AreComparedTo c.args.net.now old new pairs done c.loop-pair.all c.loop-pair.room) all (c.loop-pair.invariant old new both))
