use Rattle.std.proofs.Common.{leb, sym, ap, ◌∙◌, get_or}
use Rattle.preference_check.specs.Rows.{has_upto}
use Rattle.preference_check.proofs.Offered.{number_read}
use Rattle.preference_check.proofs.OneNumber.{noted_elsewhere, noted_here, noted_there}
use Rattle.preference_check.proofs.loops.note_number.Goals as goal

pub returns-in-Some-clause-here : goal.returns-in-Some-clause-here
returns-in-Some-clause-here c = λ same v.
    let row = c.args.noted.now.least.items in
    let number = get_or c.args.numbers.now c.args.node 0 in
    ap (λ l. has_upto row l v) (sym (c.number-at.ensures ∙ c.location.ensures))
    ∙ noted_there row c.number-at.result c.in-Some.other number v (sym c.at.ensures ∙ c.in-Some.is) same
    ∙ ap (λ n. leb n v) (sym (number_read c.args.numbers.now c.args.node))

pub returns-in_ok-lower-in-None-clause-here : goal.returns-in_ok-lower-in-None-clause-here
returns-in_ok-lower-in-None-clause-here c = λ same v.
    let number = get_or c.args.numbers.now c.args.node 0 in
    noted_here c.args.noted.now.least.items _ c.number-at.result number (sym c.at.ensures ∙ c.in-None.is) c.in_ok-lower-in-None.ensures _ v (c.number-at.ensures ∙ c.location.ensures)
    ∙ ap (λ n. leb n v) (sym (number_read c.args.numbers.now c.args.node))

pub returns-in_ok-lower-in-None-clause-kept : goal.returns-in_ok-lower-in-None-clause-kept
returns-in_ok-lower-in-None-clause-kept c =
    noted_elsewhere c.args.noted.now.least.items _ c.number-at.result (get_or c.args.numbers.now c.args.node 0) (sym c.at.ensures ∙ c.in-None.is) c.in_ok-lower-in-None.ensures
