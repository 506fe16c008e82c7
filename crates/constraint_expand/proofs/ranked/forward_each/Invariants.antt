use Rattle.std.proofs.Common.{map, take}
use Rattle.policy_base.specs.declared.call.Call.TheVariants.{Of}
use Rattle.path_exprs.specs.Forward.{forward}
use Rattle.path_exprs.specs.Parts.{Puts}
use Rattle.path_exprs.specs.Shared.{values}
use Rattle.constraint_expand.proofs.ranked.forward_each.Given as goal

abbrev pub invariant-loop-i : goal.invariant-loop-i
invariant-loop-i l = Puts (values l.fn.parts) (values l.parts) l.all.items (map (forward l.net) (map (Of l.call) (take l.i l.sets)))
