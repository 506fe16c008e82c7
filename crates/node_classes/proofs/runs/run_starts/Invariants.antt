use Rattle.std.proofs.Common.{◌≡◌, ◌+◌, length}
use Rattle.node_classes.specs.Ways.{AreRunStarts, BeginsAt}
use Rattle.node_classes.proofs.runs.run_starts.Given as goal

abbrev pub invariant-loop-node : goal.invariant-loop-node
invariant-loop-node l = record {
  count : length l.starts.items ≡ l.node + 1;
  starts : AreRunStarts l.ways l.starts.items;
  place : BeginsAt l.ways l.node l.place;
}
