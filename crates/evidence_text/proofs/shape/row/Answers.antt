use Rattle.std.proofs.Common.{◌∙◌, refl, sym}
use Rattle.evidence_text.specs.Shape.{row_of}
use Rattle.evidence_text.proofs.shape.row.Goals as goal

pub returns-in_default : goal.returns-in_default
unfolding row_of
returns-in_default c = λ _. rw (sym c.in_default.ensures) refl

pub returns-then-not-has_length : goal.returns-then-not-has_length
unfolding row_of
returns-then-not-has_length c = λ _. rw (sym c.in-Some.ensures, sym c.has_length.ensures ∙ c.if-not-has_length.true) refl

pub returns : goal.returns
unfolding row_of
returns c = rw (sym c.in-Some.ensures, sym c.has_length.ensures ∙ c.if-not-has_length.false) refl
