use Rattle.std.proofs.Common.{◌+◌, sym, ap, ◌∙◌}
use Rattle.std.specs.List.{list_any}
use Rattle.evidence_reuse.specs.Staying.{is_number}
use Rattle.evidence_reuse.proofs.Numbers.{never_lost, stays_got, stays_later, to_end}
use Rattle.evidence_reuse.proofs.staying.Beside.unless_later.Goals as goal

pub returns-then-is_among-clause-none : goal.returns-then-is_among-clause-none
returns-then-is_among-clause-none c =
    stays_later _ _ c.args.self.now.compiled.now c.args.numbers.now c.requires.numbers c.args.place c.args.case.now c.requires.at c.args.was c.requires.may
    (ap (list_any (is_number c.args.was)) (to_end c.args.numbers.now (c.args.place + 1)) ∙ sym c.is_among.ensures ∙ c.if-is_among.true)

pub returns-clause-stays : goal.returns-clause-stays
returns-clause-stays c =
    let got = c.get.ensures.lookup in
    stays_got _ _ c.args.self.now.compiled.now c.args.numbers.now c.requires.numbers c.args.place c.args.case.now c.requires.at c.args.was _ c.requires.may c.saturating_sub.ensures
    c.get.result got.0 got.1 (ap (list_any (is_number c.args.was)) (to_end c.args.numbers.now (c.args.place + 1)) ∙ sym c.is_among.ensures ∙ c.if-is_among.false)

pub returns-clause-none : goal.returns-clause-none
returns-clause-none c =
    never_lost _ _ c.args.self.now.compiled.now c.args.numbers.now c.requires.numbers c.args.place c.args.case.now c.requires.at c.args.was _ c.requires.may c.saturating_sub.ensures
    c.get.result c.get.ensures.lookup.0
