use Rattle.std.proofs.Common.{ℕ, ◌+◌, ◌*◌, ◌<◌, ◌^◌, get_or, arith, ap, ◌∙◌}
use Rattle.std.specs.Prelude.{count_ones}
use Rattle.std.specs.Int.Count.{ones-le}
use Rattle.bit_rows.specs.Bits.{has}
use Rattle.list_law.proofs.Counts.{count_within}
use Rattle.bit_rows.proofs.Counting.{count_word, word_bits}
use Rattle.bit_rows.proofs.kernels.count_bits.Goals as goal

pub overflow_add-count : goal.overflow_add-count
overflow_add-count c =
    let fits : get_or c.args.row.now c.loop-word.word-index 0 < 2 ^ 64 = (c.type_inv.row c.loop-word.word-index).fits in
    omega (arith, count_within (has c.args.row.now) 0 (64 * c.loop-word.word-index), ones-le 64 (get_or c.args.row.now c.loop-word.word-index 0) fits)

pub loop-word-preserved : goal.loop-word-preserved
loop-word-preserved c =
    let fits : get_or c.args.row.now c.loop-word.word-index 0 < 2 ^ 64 = (c.type_inv.row c.loop-word.word-index).fits in
    ap (λ (z : ℕ). z + count_ones (get_or c.args.row.now c.loop-word.word-index 0)) c.loop-word.invariant
    ∙ count_word (has c.args.row.now) c.loop-word.word-index (get_or c.args.row.now c.loop-word.word-index 0)
    (word_bits c.args.row.now c.loop-word.word-index) fits
