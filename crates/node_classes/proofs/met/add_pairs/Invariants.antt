use Rattle.std.proofs.Common.{◌≡◌, take}
use Rattle.node_classes.specs.Meets.{with_pairs}
use Rattle.node_classes.specs.Stages.{targets}
use Rattle.node_classes.proofs.met.add_pairs.Given as goal

abbrev pub invariant-loop-i : goal.invariant-loop-i
invariant-loop-i l = l.found.keys ≡ with_pairs l.fn.found.keys (targets (take l.i l.one) (take l.i l.other))
