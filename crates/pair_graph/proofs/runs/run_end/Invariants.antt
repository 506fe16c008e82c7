use Rattle.std.proofs.Common.{ℕ, ◌+◌, ◌-◌, ◌<◌, ◌≤◌, get_or, length}
use Rattle.pair_graph.specs.declared.way.Way.{Way}
use Rattle.pair_graph.proofs.runs.run_end.Given as goal

abbrev pub invariant-run : goal.invariant-run
invariant-run l = record {
  within : l.end ≤ length l.ways;
  before : (k : ℕ) (d : Way) → k < l.end → (get_or l.ways k d).from < l.node + 1;
}

abbrev pub decreases-run : goal.decreases-run
decreases-run l = length l.ways - l.end
