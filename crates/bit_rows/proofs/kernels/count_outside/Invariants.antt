use Rattle.std.proofs.Common.{◌≡◌, ◌*◌, ◌&&◌, not}
use Rattle.std.specs.List.{count_by, range_with_len}
use Rattle.bit_rows.specs.Bits.{has}
use Rattle.bit_rows.proofs.kernels.count_outside.Given as goal

abbrev pub invariant-loop-i : goal.invariant-loop-i
invariant-loop-i l = l.count ≡ count_by (λ k. has l.a k && (has l.b k && not (has l.c k))) (range_with_len 0 (64 * l.i))
