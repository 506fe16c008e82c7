use Rattle.std.proofs.Common.{ℕ, ◌+◌, ◌*◌, not, ◌&&◌, get_or, arith, ap, ◌∙◌}
use Rattle.std.specs.Int.Count.{ones-le}
use Rattle.std.specs.Prelude.{count_ones}
use Rattle.bit_rows.specs.Bits.{has, outside}
use Rattle.list_law.proofs.Counts.{count_within}
use Rattle.bit_rows.proofs.Counting.{count_word}
use Rattle.bit_rows.proofs.Words.{outside_fits, outside_bits}
use Rattle.bit_rows.proofs.kernels.count_outside.Goals as goal

pub overflow_add-count : goal.overflow_add-count
overflow_add-count c =
    let a = c.args.a.now in
    let b = c.args.b.now in
    let d = c.args.c.now in
    let i : ℕ = c.loop-i.i in
    let fits = outside_fits a b d i (c.type_inv.a i).fits in
    omega (arith, c.loop-i.invariant, count_within (λ k. has a k && (has b k && not (has d k))) 0 (64 * i), ones-le 64 (outside (get_or a i 0) (get_or b i 0) (get_or d i 0)) fits)

pub loop-i-preserved : goal.loop-i-preserved
loop-i-preserved c =
    let a = c.args.a.now in
    let b = c.args.b.now in
    let d = c.args.c.now in
    let i : ℕ = c.loop-i.i in
    ap (λ (z : ℕ). z + count_ones (outside (get_or a i 0) (get_or b i 0) (get_or d i 0))) c.loop-i.invariant
    ∙ count_word (λ k. has a k && (has b k && not (has d k))) i (outside (get_or a i 0) (get_or b i 0) (get_or d i 0))
    (outside_bits a b d i (c.type_inv.c i).fits) (outside_fits a b d i (c.type_inv.a i).fits)
