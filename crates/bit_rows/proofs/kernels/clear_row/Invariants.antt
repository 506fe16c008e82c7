use Rattle.std.proofs.Common.{◌*◌, w64}
use Rattle.std.specs.Prelude.{bit_and}
use Rattle.std.specs.Int.{bit_not}
use Rattle.bit_rows.proofs.Words.{AreJoined}
use Rattle.bit_rows.proofs.kernels.clear_row.Given as goal

abbrev pub invariant-loop-k : goal.invariant-loop-k
invariant-loop-k l = AreJoined (λ x y. bit_and x (bit_not w64 y)) l.fn.row l.other l.row (4 * l.k)

abbrev pub invariant-loop-i : goal.invariant-loop-i
invariant-loop-i l = AreJoined (λ x y. bit_and x (bit_not w64 y)) l.fn.row l.other l.row l.i
