use Rattle.std.proofs.Common.{◌≡◌, length}
use Rattle.graph_base.proofs.WalkLemmas.{AreLeast}
use Rattle.graph_base.proofs.follow.firsts_before.Given as goal

abbrev pub invariant-loop-from : goal.invariant-loop-from
invariant-loop-from l = record {
  size : length l.firsts.items ≡ length l.graph.nodes;
  least : AreLeast l.graph l.from-index l.firsts.items;
}
