use Rattle.std.proofs.Common.{◌≡◌, ℕ, [], length}
use Rattle.place_rows.specs.Noted.{rows_at}
use Rattle.place_rows.proofs.table.no_rows.Given as goal

abbrev pub invariant-loop : goal.invariant-loop
invariant-loop l = record {
  size : length l.rows.items ≡ l.counter;
  none : (r : ℕ) → rows_at l.rows.items r ≡ [];
}
