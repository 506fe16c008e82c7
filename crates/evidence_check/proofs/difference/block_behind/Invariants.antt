use Rattle.std.proofs.Common.{◌≡◌, drop}
use Rattle.evidence_verdicts.specs.Verdicts.{block_after}
use Rattle.evidence_check.proofs.difference.block_behind.Given as goal

abbrev pub invariant-loop-place : goal.invariant-loop-place
invariant-loop-place l = block_after l.place l.left (drop l.place l.routers) ≡ block_after 0 l.lines l.routers
