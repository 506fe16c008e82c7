use Rattle.std.proofs.Common.{ℕ, ◌+◌, ◌-◌, ◌<◌, ◌≤◌, get_or, length}
use Rattle.pair_graph.specs.declared.way.Way.{Way}
use Rattle.pair_graph.proofs.merging.past.Given as goal

abbrev pub invariant-past : goal.invariant-past
invariant-past l = record {
  within : l.end ≤ length l.ways;
  kept : l.index ≤ l.end;
  before : (k : ℕ) (d : Way) → k < l.end → (get_or l.ways k d).place < l.place + 1;
}

abbrev pub decreases-past : goal.decreases-past
decreases-past l = length l.ways - l.end
