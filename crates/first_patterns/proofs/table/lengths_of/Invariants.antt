use Rattle.std.proofs.Common.{◌≡◌, ◌<◌, ℕ, Some, length, true}
use Rattle.std.specs.Prelude.{slice_get}
use Rattle.first_patterns.specs.declared.firsts.Stated.{Stated}
use Rattle.first_patterns.proofs.table.lengths_of.Given as goal

abbrev pub invariant-loop : goal.invariant-loop
invariant-loop l = length l.lengths.items ≡ l.counter

abbrev pub invariant-loop-i : goal.invariant-loop-i
invariant-loop-i l = record {
  count : length l.lengths.items ≡ 33;
  marked : (j : ℕ) (t : Stated) → j < l.i → slice_get l.patterns j ≡ Some t → slice_get l.lengths.items t.pattern.base.len ≡ Some true;
}
