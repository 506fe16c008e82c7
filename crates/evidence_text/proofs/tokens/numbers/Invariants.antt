use Rattle.std.proofs.Common.{length}
use Rattle.evidence_text.specs.declared.parts.Field.{Field}
use Rattle.evidence_text.specs.Shape.{number_of}
use Rattle.evidence_text.proofs.TokenLaws.{GoesOn}
use Rattle.evidence_text.proofs.tokens.numbers.Given as goal

abbrev pub invariant-items : goal.invariant-items
invariant-items l = (f : Field) → GoesOn 0 (number_of f 0 l.most) l.initial.reader l.all l.reader

abbrev pub decreases-items : goal.decreases-items
decreases-items l = length l.reader
