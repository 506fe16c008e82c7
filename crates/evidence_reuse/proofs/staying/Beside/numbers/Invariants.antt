use Rattle.evidence_reuse.proofs.Numbers.{AreNumbersUpTo}
use Rattle.evidence_reuse.proofs.staying.Beside.numbers.Given as goal

abbrev pub invariant-loop-place : goal.invariant-loop-place
invariant-loop-place l = AreNumbersUpTo l.self.cells.now l.self.olds.now l.self.compiled.now l.place l.numbers.items
