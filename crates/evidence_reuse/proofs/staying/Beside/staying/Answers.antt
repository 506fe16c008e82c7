use Rattle.std.proofs.Common.{Some, ap, ◌∙◌, arith}
use Rattle.std.proofs.lemmas.Option.{slice_get-get_or, slice_get_within}
use Rattle.evidence_reuse.proofs.Numbers.{never_stays}
use Rattle.evidence_reuse.proofs.staying.Beside.staying.Goals as goal

pub returns-in-None-clause-none : goal.returns-in-None-clause-none
returns-in-None-clause-none c =
    let numbers = c.requires.numbers in
    let inside = slice_get_within c.args.self.now.compiled.now c.args.place c.args.case.now c.requires.at in
    never_stays _ _ c.args.self.now.compiled.now c.args.numbers.now numbers c.args.place c.args.case.now c.requires.at
    (slice_get-get_or c.args.numbers.now c.args.place _ (omega (arith, inside, numbers.count)) ∙ ap Some c.in-None.is)
