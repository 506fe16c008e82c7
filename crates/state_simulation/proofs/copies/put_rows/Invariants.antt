use Rattle.std.proofs.Common.{◌≡◌, ◌<◌, ℕ}
use Rattle.bit_rows.specs.Tables.{IsSameSize, has_at}
use Rattle.state_simulation.proofs.copies.put_rows.Given as goal

abbrev pub invariant-loop-n : goal.invariant-loop-n
invariant-loop-n l = record {
  size : IsSameSize l.into l.initial.into;
  bits : (n b : ℕ) → n < l.n → has_at l.into n b ≡ has_at l.rows n b;
}
