use Rattle.std.proofs.Common.{◌≡◌, length, take}
use Rattle.tag_assign.specs.Counts.{HasCounts}
use Rattle.tag_assign.specs.Tagging.{tags_of, all_nodes}
use Rattle.tag_assign.proofs.assign.graph_tags.Given as goal

abbrev pub invariant-loop-graph : goal.invariant-loop-graph
invariant-loop-graph l = record {
  counters : length l.counts ≡ length l.net.routers;
  counts : HasCounts l.counts (all_nodes (take l.graph-index l.graphs));
  tags : l.tags ≡ tags_of l.net (take l.graph-index l.graphs);
}
