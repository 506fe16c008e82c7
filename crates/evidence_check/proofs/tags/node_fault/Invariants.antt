use Rattle.std.proofs.Common.{◌≡◌, ℕ, List, Some}
use Rattle.evidence_base.specs.Made.{PlainCaseEvidence, case_at}
use Rattle.evidence_check.specs.TagRule.{AreSeen}
use Rattle.evidence_check.proofs.tags.node_fault.Given as goal

abbrev pub invariant-loop-node : goal.invariant-loop-node
invariant-loop-node l = (cs : List PlainCaseEvidence) (k : ℕ) → case_at cs k ≡ Some l.case → AreSeen l.net cs k 0 l.fn.seen.keys → AreSeen l.net cs k l.node l.seen.keys
