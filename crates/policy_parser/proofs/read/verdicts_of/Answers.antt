use Rattle.std.proofs.Common.{◌∙◌, sym, ap, Ok}
use Rattle.list_law.proofs.Exits.{passed_on}
use Rattle.policy_parser.proofs.ReadItems.{no_text, fault_first, deep_next, items_last}
use Rattle.policy_parser.proofs.TakenTexts.{reads_same}
use Rattle.policy_parser.proofs.read.verdicts_of.Goals as goal

pub returns-then-not-is_text : goal.returns-then-not-is_text
returns-then-not-is_text c = λ memory. no_text c.args.bytes.now (sym c.is_text.ensures ∙ c.if-not-is_text.true)

pub returns-in_err-place : goal.returns-in_err-place
returns-in_err-place c =
    rw (passed_on c.from_residual.result c.from_residual.ensures.1) (λ memory. fault_first c.args.bytes.now _ (sym c.is_text.ensures ∙ c.if-not-is_text.false) (c.in_err-place.ensures memory))

pub returns-in-Some : goal.returns-in-Some
returns-in-Some c = λ memory. deep_next c.args.bytes.now _ (sym c.is_text.ensures ∙ c.if-not-is_text.false) (c.in_ok-place.ensures ∙ ap Ok c.in-Some.is)

pub returns : goal.returns
returns c =
    reads_same c.args.bytes.now c.args.net.now _ _ c.items_taken.result
    (items_last c.args.bytes.now (sym c.is_text.ensures ∙ c.if-not-is_text.false) (c.in_ok-place.ensures ∙ ap Ok c.in_default.is)) c.items_taken.ensures
