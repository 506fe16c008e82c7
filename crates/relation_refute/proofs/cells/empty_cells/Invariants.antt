use Rattle.std.proofs.Common.{◌≡◌, ◌+◌, ◌*◌, ◌<◌, ◌≤◌, ℕ, get_or, length}
use Rattle.graph_base.specs.Runs.{place_of}
use Rattle.relation_refute.specs.Cells.{room_at}
use Rattle.relation_refute.proofs.cells.empty_cells.Given as goal

abbrev pub invariant-loop-node : goal.invariant-loop-node
invariant-loop-node l = record {
  len : length l.bases.items ≡ l.node;
  most : l.end ≤ l.node * 4294967295;
  rooms : (n : ℕ) → n < l.node → get_or l.bases.items n 0 + room_at l.graph (place_of l.graph n) ≤ l.end;
  blocks : (a b : ℕ) → a < b → b < l.node → get_or l.bases.items a 0 + room_at l.graph (place_of l.graph a) ≤ get_or l.bases.items b 0;
}
