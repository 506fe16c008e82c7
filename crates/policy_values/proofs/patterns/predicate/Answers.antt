use Rattle.std.proofs.Common.{refl, ap, arith}
use Rattle.list_law.proofs.Exits.{passed_on}
use Rattle.policy_values.specs.PatternValues.{PatternsValue, plain_patterns}
use Rattle.policy_values.proofs.PatternsBehind.{count_more, predicate_with}
use Rattle.policy_values.proofs.LexemeCounts.{left_few}
use Rattle.policy_values.proofs.patterns.predicate.Goals as goal

pub more_patterns-requires-clause-few : goal.more_patterns-requires-clause-few
more_patterns-requires-clause-few c =
    let one = count_more (plain_patterns c.none-found.result) (plain_patterns c.take-2.new.self) c.in_ok-first.first c.in_ok-take-2.ensures in
    let none = ap (λ (v : PatternsValue). v.count) c.none-found.ensures in
    omega (arith, one, none, left_few c.args.text.now c.pattern.new.at c.pattern.ensures.stands)

pub returns-in_err-more_patterns-clause-read : goal.returns-in_err-more_patterns-clause-read
returns-in_err-more_patterns-clause-read c =
    let away = c.if-past.ensures.away refl in
    let read = rw away.1 at c.in_ok-first.ensures.read in
    rw (passed_on c.from_residual-in_err-more_patterns.result c.from_residual-in_err-more_patterns.ensures.1)
    (λ memory. predicate_with c.args.text.now _ _ c.in_ok-first.first (plain_patterns c.none-found.result)
    (plain_patterns c.take-2.new.self) _ c.none-found.ensures away.0 read c.in_ok-take-2.ensures
    (c.in_err-more_patterns.ensures.read memory))

pub returns-clause-read : goal.returns-clause-read
returns-clause-read c =
    let away = c.if-past.ensures.away refl in
    let read = rw away.1 at c.in_ok-first.ensures.read in
    predicate_with c.args.text.now _ _ c.in_ok-first.first (plain_patterns c.none-found.result)
    (plain_patterns c.take-2.new.self) _ c.none-found.ensures away.0 read c.in_ok-take-2.ensures c.in_ok-more_patterns.ensures.read
