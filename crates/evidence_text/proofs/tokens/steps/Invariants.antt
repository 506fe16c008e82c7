use Rattle.std.proofs.Common.{length}
use Rattle.evidence_text.specs.Shape.{step_of}
use Rattle.evidence_text.proofs.TokenLaws.{GoesOn}
use Rattle.evidence_text.proofs.tokens.steps.Given as goal

abbrev pub invariant-items : goal.invariant-items
invariant-items l = GoesOn 1 step_of l.initial.reader l.all l.reader

abbrev pub decreases-items : goal.decreases-items
decreases-items l = length l.reader
