use Rattle.std.proofs.Common.{◌+◌}
use Rattle.evidence_check.specs.TagRule.{AreSeen}
use Rattle.evidence_check.proofs.tags.tag_fault.Given as goal

abbrev pub invariant-loop-place : goal.invariant-loop-place
invariant-loop-place l = AreSeen l.net l.evidence (l.place + 1) 0 l.seen.keys
