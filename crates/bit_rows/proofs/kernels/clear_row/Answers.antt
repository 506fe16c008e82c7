use Rattle.std.proofs.Common.{arith, refl, w64}
use Rattle.std.specs.Prelude.{bit_and}
use Rattle.std.specs.Int.{bit_not}
use Rattle.bit_rows.proofs.Words.{has_and_not, all_words}
use Rattle.bit_rows.proofs.kernels.clear_row.Goals as goal

pub returns-clause-bits : goal.returns-clause-bits
returns-clause-bits c =
    has_and_not c.args.row.now c.loop-i.row c.args.other.now (λ j. (c.type_inv.other j).fits) (all_words (λ x y. bit_and x (bit_not w64 y))
    c.args.row.now c.loop-i.row c.args.other.now c.loop-i.i c.loop-i.invariant c.requires (omega arith) refl)
