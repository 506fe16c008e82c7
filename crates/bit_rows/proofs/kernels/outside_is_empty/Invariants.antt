use Rattle.std.proofs.Common.{◌≡◌, ℕ, ◌*◌, ◌<◌, get_or}
use Rattle.bit_rows.specs.Bits.{outside}
use Rattle.bit_rows.proofs.kernels.outside_is_empty.Given as goal

abbrev pub invariant-loop-k : goal.invariant-loop-k
invariant-loop-k l = (j : ℕ) → j < 4 * l.k → outside (get_or l.a j 0) (get_or l.b j 0) (get_or l.c j 0) ≡ 0

abbrev pub invariant-loop-i : goal.invariant-loop-i
invariant-loop-i l = (j : ℕ) → j < l.i → outside (get_or l.a j 0) (get_or l.b j 0) (get_or l.c j 0) ≡ 0
