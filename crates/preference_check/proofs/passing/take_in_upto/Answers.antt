use Rattle.std.proofs.Common.{ap, arith}
use Rattle.std.proofs.lemmas.List.{get_or_default}
use Rattle.preference_check.specs.declared.runs.Numbered.{Numbered}
use Rattle.preference_check.proofs.passing.take_in_upto.Goals as goal

pub returns-then-number-entry-clause-all : goal.returns-then-number-entry-clause-all
returns-then-number-entry-clause-all c = λ j d le lt.
    let none : Numbered = record { number = 0; node = 0 } in
    let order = c.requires.order c.next.next j none le lt in
    let same = ap (λ (x : Numbered). x.number) (get_or_default c.args.run.now j none d lt) in
    omega (arith, c.if-number-entry.true, order, same)
