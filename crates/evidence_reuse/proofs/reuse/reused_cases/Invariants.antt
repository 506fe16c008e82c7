use Rattle.evidence_reuse.proofs.Cases.{AreReusedUpTo}
use Rattle.evidence_reuse.proofs.reuse.reused_cases.Given as goal

abbrev pub invariant-loop-place : goal.invariant-loop-place
invariant-loop-place l = AreReusedUpTo l.beside.cells.now l.beside.olds.now l.beside.compiled.now l.renewed l.all l.place
