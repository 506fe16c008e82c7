use Rattle.std.proofs.Common.{length}
use Rattle.evidence_text.specs.Shape.{case_of}
use Rattle.evidence_text.proofs.TokenLaws.{GoesOn}
use Rattle.evidence_text.proofs.tokens.cases.Given as goal

abbrev pub invariant-items : goal.invariant-items
invariant-items l = GoesOn 3 case_of l.initial.reader l.all l.reader

abbrev pub decreases-items : goal.decreases-items
decreases-items l = length l.reader
