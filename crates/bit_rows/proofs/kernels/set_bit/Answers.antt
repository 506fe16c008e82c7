use Rattle.bit_rows.proofs.Setting.{bit_set}
use Rattle.bit_rows.proofs.kernels.set_bit.Goals as goal

pub returns-clause-bits : goal.returns-clause-bits
returns-clause-bits c = λ b. bit_set c.args.row.now c.args.bit b c.requires
