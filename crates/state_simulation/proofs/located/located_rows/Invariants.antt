use Rattle.std.proofs.Common.{◌≡◌, ◌<◌, ◌&&◌, ◌==◌, ℕ, nat_lt}
use Rattle.bit_rows.specs.Tables.{IsSameSize, has_at}
use Rattle.graph_base.specs.Runs.{place_of}
use Rattle.state_simulation.proofs.located.located_rows.Given as goal

abbrev pub invariant-loop-node : goal.invariant-loop-node
invariant-loop-node l = record {
  size : IsSameSize l.rows l.initial.rows;
  nodes : (p n : ℕ) → p < l.rows.count → has_at l.rows p n ≡ (nat_lt n l.node && place_of l.graph n == p);
}
