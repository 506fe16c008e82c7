use Rattle.std.proofs.Common.{arith, refl}
use Rattle.std.specs.Prelude.{bit_or}
use Rattle.bit_rows.proofs.Words.{has_or, all_words}
use Rattle.bit_rows.proofs.kernels.add_row.Goals as goal

pub returns-clause-bits : goal.returns-clause-bits
returns-clause-bits c =
    has_or c.args.row.now c.loop-i.row c.args.other.now (all_words bit_or c.args.row.now c.loop-i.row c.args.other.now c.loop-i.i c.loop-i.invariant c.requires (omega arith) refl)
