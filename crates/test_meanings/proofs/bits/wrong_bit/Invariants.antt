use Rattle.std.proofs.Common.{◌≡◌, ◌≤◌}
use Rattle.test_meanings.proofs.bits.wrong_bit.Given as goal

abbrev pub invariant-loop-bit : goal.invariant-loop-bit
invariant-loop-bit l = record { count : l.rows.count ≡ 2; bits : l.rows.bits ≡ l.bits }

abbrev pub invariant-loop-bit-2 : goal.invariant-loop-bit-2
invariant-loop-bit-2 l = l.count ≤ l.bit
