use Rattle.std.proofs.Common.{◌≡◌, ◌&&◌, ℕ, nat_lt}
use Rattle.bit_rows.specs.Tables.{IsSameSize, has_at}
use Rattle.relation_law.specs.Numbers.{is_first}
use Rattle.state_simulation.specs.Held.{has}
use Rattle.preference_numbers.proofs.classes.firsts.Given as goal

abbrev pub invariant-loop-p : goal.invariant-loop-p
invariant-loop-p l = record {
  size : IsSameSize l.firsts l.initial.firsts;
  each : (p : ℕ) → has_at l.firsts 0 p ≡ (nat_lt p l.p && is_first (has l.relation) p);
}
