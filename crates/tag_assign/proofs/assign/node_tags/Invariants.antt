use Rattle.std.proofs.Common.{◌≡◌, ◌++◌, ◌-◌, List, length, take}
use Rattle.graph_base.specs.declared.graph.Node.{Node}
use Rattle.tag_assign.specs.Counts.{HasCounts, HaveRoom}
use Rattle.tag_assign.specs.Tagging.{tags_after}
use Rattle.tag_assign.proofs.assign.node_tags.Given as goal

abbrev pub invariant-loop-node : goal.invariant-loop-node
invariant-loop-node l = record {
  counters : length l.counts ≡ length l.net.routers;
  room : HaveRoom l.counts (length l.nodes - l.node-index);
  counts : (before : List Node) → HasCounts l.initial.counts before → HasCounts l.counts (before ++ take l.node-index l.nodes);
  tags : (before : List Node) → HasCounts l.initial.counts before → l.tags ≡ tags_after l.net before (take l.node-index l.nodes);
}
