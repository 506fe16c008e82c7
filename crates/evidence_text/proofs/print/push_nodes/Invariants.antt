use Rattle.std.proofs.Common.{◌≡◌, ◌++◌, take, drop}
use Rattle.std.specs.List.{AllByRecursion}
use Rattle.evidence_text.specs.Text.{nodes_data}
use Rattle.evidence_text.specs.Writable.{HasShortRank, IsShort, IsShortTag}
use Rattle.evidence_text.proofs.Items.{rest_text}
use Rattle.evidence_text.proofs.print.push_nodes.Given as goal

abbrev pub invariant-loop-i : goal.invariant-loop-i
invariant-loop-i l =
    (l.text.items ++ rest_text l.i (nodes_data (drop l.i l.nodes) (drop l.i l.numbers) (drop l.i l.tags)) ≡ l.initial.text.items ++ rest_text 0 (nodes_data l.nodes l.numbers l.tags))
    × AllByRecursion HasShortRank (take l.i l.nodes)
    × AllByRecursion IsShort (take l.i l.numbers)
    × AllByRecursion IsShortTag (take l.i l.tags)
