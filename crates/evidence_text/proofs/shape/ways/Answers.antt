use Rattle.std.proofs.Common.{refl}
use Rattle.evidence_text.specs.Shape.{ways_of}
use Rattle.list_law.proofs.Exits.{passed_on}
use Rattle.evidence_text.proofs.shape.ways.Goals as goal

pub returns-in_err-starts : goal.returns-in_err-starts
unfolding ways_of
returns-in_err-starts c = rw (passed_on c.from_residual.result c.from_residual.ensures.1) (λ n. rw (c.in_err-starts.ensures n) refl)

pub returns-in_err-starts-2 : goal.returns-in_err-starts-2
unfolding ways_of
returns-in_err-starts-2 c =
    rw (passed_on c.from_residual-in_err-starts-2.result c.from_residual-in_err-starts-2.ensures.1)
    (λ n. rw (c.in_ok-starts.ensures, c.in_err-starts-2.ensures n) refl)

pub returns-in_err-statement : goal.returns-in_err-statement
unfolding ways_of
returns-in_err-statement c =
    rw (passed_on c.from_residual-in_err-statement.result c.from_residual-in_err-statement.ensures.1)
    (λ n. rw (c.in_ok-starts.ensures, c.in_ok-starts-2.ensures, c.in_err-statement.ensures n) refl)

pub returns-in_err-statement-2 : goal.returns-in_err-statement-2
unfolding ways_of
returns-in_err-statement-2 c =
    rw (passed_on c.from_residual-in_err-statement-2.result c.from_residual-in_err-statement-2.ensures.1)
    (λ n. rw (c.in_ok-starts.ensures, c.in_ok-starts-2.ensures, c.in_ok-statement.ensures, c.in_err-statement-2.ensures.number n) refl)

pub returns-in_err-items : goal.returns-in_err-items
unfolding ways_of
returns-in_err-items c =
    rw (passed_on c.from_residual-in_err-items.result c.from_residual-in_err-items.ensures.1)
    (λ n. rw (c.in_ok-starts.ensures, c.in_ok-starts-2.ensures, c.in_ok-statement.ensures, c.in_ok-statement-2.ensures.number, c.in_err-items.ensures n) refl)

pub returns-in_err-steps : goal.returns-in_err-steps
unfolding ways_of
returns-in_err-steps c =
    rw (passed_on c.from_residual-in_err-steps.result c.from_residual-in_err-steps.ensures.1)
    (λ n. rw (c.in_ok-starts.ensures, c.in_ok-starts-2.ensures, c.in_ok-statement.ensures, c.in_ok-statement-2.ensures.number, c.in_ok-items.ensures, c.in_err-steps.ensures n) refl)

pub returns : goal.returns
unfolding ways_of
returns c = rw (c.in_ok-starts.ensures, c.in_ok-starts-2.ensures, c.in_ok-statement.ensures, c.in_ok-statement-2.ensures.number, c.in_ok-items.ensures, c.in_ok-steps.ensures) refl
