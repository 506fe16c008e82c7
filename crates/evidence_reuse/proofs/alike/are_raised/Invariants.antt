use Rattle.std.proofs.Common.{◌≡◌, drop}
use Rattle.evidence_reuse.specs.Staying.{are_raised}
use Rattle.evidence_reuse.proofs.alike.are_raised.Given as goal

abbrev pub invariant-loop-i : goal.invariant-loop-i
invariant-loop-i l = are_raised l.by l.numbers l.others ≡ are_raised l.by (drop l.i l.numbers) (drop l.i l.others)
