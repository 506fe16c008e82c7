use Rattle.std.proofs.Common.{map, take}
use Rattle.std.specs.List.{flat_map}
use Rattle.path_exprs.specs.Forward.{both_of_two}
use Rattle.path_exprs.specs.Parts.{at, Puts}
use Rattle.path_exprs.specs.Shared.{values}
use Rattle.constraint_expand.proofs.ranked.pairs_of.Given as goal

abbrev pub invariant-loop-i : goal.invariant-loop-i
invariant-loop-i l = Puts (values l.fn.parts) (values l.parts) l.all.items (flat_map (λ e. map (both_of_two e) (map (at (values l.fn.parts)) l.fs)) (map (at (values l.fn.parts)) (take l.i l.es)))
