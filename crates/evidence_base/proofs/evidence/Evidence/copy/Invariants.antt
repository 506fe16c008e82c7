use Rattle.std.proofs.Common.{◌≡◌, take}
use Rattle.evidence_base.proofs.evidence.Evidence.copy.Given as goal

abbrev pub invariant-loop-case : goal.invariant-loop-case
invariant-loop-case l = l.cases ≡ take l.case-index l.self.cases
