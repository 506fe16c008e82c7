use Rattle.std.proofs.Common.{refl}
use Rattle.evidence_text.specs.Shape.{step_of}
use Rattle.list_law.proofs.Exits.{passed_on}
use Rattle.evidence_text.proofs.shape.step.Goals as goal

pub returns-in_err-row : goal.returns-in_err-row
unfolding step_of
returns-in_err-row c = rw (passed_on c.from_residual.result c.from_residual.ensures.1) (λ n. rw (c.in_err-row.ensures n) refl)

pub returns-in_err-from : goal.returns-in_err-from
unfolding step_of
returns-in_err-from c = rw (passed_on c.from_residual-in_err-from.result c.from_residual-in_err-from.ensures.1) (λ n. rw (c.in_ok-row.ensures, c.in_err-from.ensures.number n) refl)

pub returns-in_err-to : goal.returns-in_err-to
unfolding step_of
returns-in_err-to c =
    rw (passed_on c.from_residual-in_err-to.result c.from_residual-in_err-to.ensures.1)
    (λ n. rw (c.in_ok-row.ensures, c.in_ok-from.ensures.number, c.in_err-to.ensures.number n) refl)

pub returns : goal.returns
unfolding step_of
returns c = rw (c.in_ok-row.ensures, c.in_ok-from.ensures.number, c.in_ok-to.ensures.number, c.pair.ensures) refl
