use Rattle.std.proofs.Common.{◌≡◌, None, Some, arith}
use Rattle.json.specs.Json.{after_end_array}
use Rattle.evidence_text.specs.declared.parts.Field.TheVariants as field
use Rattle.evidence_text.specs.Shape.{step_of}
use Rattle.evidence_text.proofs.TokenLaws.{goes_on, all_listed, fewer}
use Rattle.evidence_text.proofs.tokens.steps.Goals as goal

pub items-init : goal.items-init
items-init c = rw c.new-all.ensures (λ xs rest more. more)

pub items-preserved : goal.items-preserved
items-preserved c =
    let l = c.items in
    let going : (after_end_array l.reader ≡ None) × (c.take_end_array.new.self ≡ l.reader) = grind arith in
    rw c.in_ok-push.ensures (goes_on 1 step_of c.begin_array.new.reader l.reader l.all (Some c.in_ok-entry.entry) _ l.invariant (rw (← going.1) c.in_ok-entry.ensures))

pub items-smaller : goal.items-smaller
items-smaller c =
    let l = c.items in
    let going : (after_end_array l.reader ≡ None) × (c.take_end_array.new.self ≡ l.reader) = grind arith in
    rw (← going.1) (fewer 1 step_of c.take_end_array.new.self (Some c.in_ok-entry.entry) _ c.in_ok-entry.ensures)

pub returns : goal.returns
returns c =
    let l = c.items in
    let closed : after_end_array l.reader ≡ Some c.take_end_array.new.self = grind arith in
    all_listed 1 step_of field.Steps c.args.reader.now c.begin_array.new.reader l.reader c.take_end_array.new.self l.all c.in_ok-begin_array.ensures l.invariant closed
