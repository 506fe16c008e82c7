use Rattle.std.proofs.Common.{ℕ, ◌+◌, ◌-◌, ◌<◌, ◌≤◌, get_or, length}
use Rattle.node_classes.specs.declared.way.Way.{Way}
use Rattle.node_classes.proofs.runs.run_end.Given as goal

abbrev pub invariant-run : goal.invariant-run
invariant-run l = record {
  within : l.end ≤ length l.ways;
  before : (j : ℕ) (d : Way) → j < l.end → (get_or l.ways j d).from < l.node + 1;
}

abbrev pub decreases-run : goal.decreases-run
decreases-run l = length l.ways - l.end
