use Rattle.std.proofs.Common.{arith, refl}
use Rattle.std.specs.Prelude.{bit_and}
use Rattle.bit_rows.proofs.Words.{has_and, all_words}
use Rattle.bit_rows.proofs.kernels.keep_row.Goals as goal

pub returns-clause-bits : goal.returns-clause-bits
returns-clause-bits c =
    has_and c.args.row.now c.loop-i.row c.args.other.now (all_words bit_and c.args.row.now c.loop-i.row c.args.other.now c.loop-i.i c.loop-i.invariant c.requires (omega arith) refl)
