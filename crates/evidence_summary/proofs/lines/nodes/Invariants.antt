use Rattle.std.proofs.Common.{◌≡◌, ◌*◌, ◌≤◌, ◌^◌, take}
use Rattle.evidence_summary.specs.Summary.{node_count}
use Rattle.evidence_summary.proofs.lines.nodes.Given as goal

abbrev pub invariant-loop-case : goal.invariant-loop-case
invariant-loop-case l = (l.count ≡ node_count (take l.case-index l.cases)) × (l.count ≤ l.case-index * 2 ^ 64)
