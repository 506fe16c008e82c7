use Rattle.std.proofs.Common.{◌≡◌, ◌*◌}
use Rattle.std.specs.List.{count_by, range_with_len}
use Rattle.bit_rows.specs.Bits.{has}
use Rattle.bit_rows.proofs.kernels.count_bits.Given as goal

abbrev pub invariant-loop-word : goal.invariant-loop-word
invariant-loop-word l = l.count ≡ count_by (has l.row) (range_with_len 0 (64 * l.word-index))
