use Rattle.std.proofs.Common.{◌*◌}
use Rattle.std.specs.Prelude.{bit_and}
use Rattle.bit_rows.proofs.Words.{AreJoined}
use Rattle.bit_rows.proofs.kernels.keep_row.Given as goal

abbrev pub invariant-loop-k : goal.invariant-loop-k
invariant-loop-k l = AreJoined bit_and l.fn.row l.other l.row (4 * l.k)

abbrev pub invariant-loop-i : goal.invariant-loop-i
invariant-loop-i l = AreJoined bit_and l.fn.row l.other l.row l.i
