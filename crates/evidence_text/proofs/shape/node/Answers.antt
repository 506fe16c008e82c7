use Rattle.std.proofs.Common.{refl}
use Rattle.evidence_text.specs.Shape.{node_of}
use Rattle.list_law.proofs.Exits.{passed_on}
use Rattle.evidence_text.proofs.shape.node.Goals as goal

pub returns-in_err-row : goal.returns-in_err-row
unfolding node_of
returns-in_err-row c = rw (passed_on c.from_residual.result c.from_residual.ensures.1) (λ n. rw (c.in_err-row.ensures n) refl)

pub returns-in_err-number_at : goal.returns-in_err-number_at
unfolding node_of
returns-in_err-number_at c =
    rw (passed_on c.from_residual-in_err-number_at.result c.from_residual-in_err-number_at.ensures.1)
    (λ n. rw (c.in_ok-row.ensures, c.in_err-number_at.ensures.number n) refl)

pub returns-in_err-number_at-2 : goal.returns-in_err-number_at-2
unfolding node_of
returns-in_err-number_at-2 c =
    rw (passed_on c.from_residual-in_err-number_at-2.result c.from_residual-in_err-number_at-2.ensures.1)
    (λ n. rw (c.in_ok-row.ensures, c.in_ok-number_at.ensures.number, c.in_err-number_at-2.ensures.number n) refl)

pub returns-in_err-number_at-3 : goal.returns-in_err-number_at-3
unfolding node_of
returns-in_err-number_at-3 c =
    rw (passed_on c.from_residual-in_err-number_at-3.result c.from_residual-in_err-number_at-3.ensures.1)
    (λ n. rw (c.in_ok-row.ensures, c.in_ok-number_at.ensures.number, c.in_ok-number_at-2.ensures.number, c.in_err-number_at-3.ensures.number n) refl)

pub returns-in_err-number_at-4 : goal.returns-in_err-number_at-4
unfolding node_of
returns-in_err-number_at-4 c =
    rw (passed_on c.from_residual-in_err-number_at-4.result c.from_residual-in_err-number_at-4.ensures.1)
    (λ n. rw (
      c.in_ok-row.ensures,
      c.in_ok-number_at.ensures.number,
      c.in_ok-number_at-2.ensures.number,
      c.in_ok-number_at-3.ensures.number,
      c.in_err-number_at-4.ensures.number n,
    ) refl)

pub returns-in_err-number_at-5 : goal.returns-in_err-number_at-5
unfolding node_of
returns-in_err-number_at-5 c =
    rw (passed_on c.from_residual-in_err-number_at-5.result c.from_residual-in_err-number_at-5.ensures.1)
    (λ n. rw (
      c.in_ok-row.ensures,
      c.in_ok-number_at.ensures.number,
      c.in_ok-number_at-2.ensures.number,
      c.in_ok-number_at-3.ensures.number,
      c.in_ok-number_at-4.ensures.number,
      c.in_err-number_at-5.ensures.number n,
    ) refl)

pub returns-in_err-number_at-6 : goal.returns-in_err-number_at-6
unfolding node_of
returns-in_err-number_at-6 c =
    rw (passed_on c.from_residual-in_err-number_at-6.result c.from_residual-in_err-number_at-6.ensures.1)
    (λ n. rw (
      c.in_ok-row.ensures,
      c.in_ok-number_at.ensures.number,
      c.in_ok-number_at-2.ensures.number,
      c.in_ok-number_at-3.ensures.number,
      c.in_ok-number_at-4.ensures.number,
      c.in_ok-number_at-5.ensures.number,
      c.in_err-number_at-6.ensures.number n,
    ) refl)

pub returns : goal.returns
unfolding node_of
returns c = rw (
  c.in_ok-row.ensures,
  c.in_ok-number_at.ensures.number,
  c.in_ok-number_at-2.ensures.number,
  c.in_ok-number_at-3.ensures.number,
  c.in_ok-number_at-4.ensures.number,
  c.in_ok-number_at-5.ensures.number,
  c.in_ok-number_at-6.ensures.number,
  c.entry.ensures,
) refl
