use Rattle.std.proofs.Common.{take}
use Rattle.outcome_claims.specs.Marks.{AreMarks}
use Rattle.outcome_claims.proofs.marks.marks_of.Given as goal

abbrev pub invariant-loop-pair : goal.invariant-loop-pair
invariant-loop-pair l = AreMarks l.net (take l.pair-index l.pairs) l.marks.items
