use Rattle.std.proofs.Common.{◌≡◌, drop}
use Rattle.evidence_text.specs.Shape.{ascend_from}
use Rattle.evidence_text.proofs.shape.ascend.Given as goal

abbrev pub invariant-loop-entry : goal.invariant-loop-entry
invariant-loop-entry l = ascend_from l.least (drop l.entry-index l.numbers) ≡ ascend_from 0 l.numbers
