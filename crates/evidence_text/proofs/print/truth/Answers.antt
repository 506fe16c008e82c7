use Rattle.std.proofs.Common.{refl}
use Rattle.evidence_text.proofs.print.truth.Goals as goal

pub returns-then-value : goal.returns-then-value
returns-then-value c = rw c.if-value.true refl

pub returns-else-value : goal.returns-else-value
returns-else-value c = rw c.if-value.false refl
