use Rattle.std.proofs.Common.{◌≡◌, ◌<◌, ◌&&◌, ◌||◌, ℕ, not, take}
use Rattle.bit_rows.specs.Bits.{has}
use Rattle.bit_rows.specs.Tables.{IsSameSize, has_at}
use Rattle.reach_prune.specs.Searches.{is_among}
use Rattle.state_simulation.proofs.taking.keep_each.Given as goal

abbrev pub invariant-loop-n : goal.invariant-loop-n
invariant-loop-n l = record {
  size : IsSameSize l.rows l.initial.rows;
  bits : (r b : ℕ) → r < l.initial.rows.count → has_at l.rows r b ≡ (has_at l.initial.rows r b && (not (is_among (take l.n-index l.nodes) r) || has l.mask b));
}
