use Rattle.std.proofs.Common.{◌≡◌, ◌<◌, ◌+◌, ◌||◌, ℕ}
use Rattle.std.specs.List.{list_any}
use Rattle.bit_rows.specs.Tables.{IsSameSize, has_at}
use Rattle.net_base.specs.Locations.{numbers_below}
use Rattle.promises_report.specs.Tables.{node_sets}
use Rattle.promises_report.proofs.source_ranks.mark_nodes.Given as goal

abbrev pub invariant-loop-node : goal.invariant-loop-node
invariant-loop-node l = record {
  size : IsSameSize l.rows l.initial.rows;
  bits : (n b : ℕ) → n < l.ranks + 1 → has_at l.rows n b ≡ (has_at l.initial.rows n b || list_any (node_sets l.net l.graph n b) (numbers_below l.node));
}
