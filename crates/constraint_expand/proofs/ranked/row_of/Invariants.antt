use Rattle.std.proofs.Common.{map, take}
use Rattle.path_exprs.specs.Forward.{both_of_two}
use Rattle.path_exprs.specs.Parts.{at, Puts}
use Rattle.path_exprs.specs.Shared.{values}
use Rattle.constraint_expand.proofs.ranked.row_of.Given as goal

abbrev pub invariant-loop-i : goal.invariant-loop-i
invariant-loop-i l = Puts (values l.fn.parts) (values l.parts) l.all.items (map (both_of_two (at (values l.fn.parts) l.e)) (map (at (values l.fn.parts)) (take l.i l.fs)))
