use Rattle.std.proofs.Common.{◌*◌}
use Rattle.std.specs.Prelude.{bit_or}
use Rattle.bit_rows.proofs.Words.{AreJoined}
use Rattle.bit_rows.proofs.kernels.add_row.Given as goal

abbrev pub invariant-loop-k : goal.invariant-loop-k
invariant-loop-k l = AreJoined bit_or l.fn.row l.other l.row (4 * l.k)

abbrev pub invariant-loop-i : goal.invariant-loop-i
invariant-loop-i l = AreJoined bit_or l.fn.row l.other l.row l.i
