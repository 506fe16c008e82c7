use Rattle.std.proofs.Common.{◌≡◌, drop}
use Rattle.compare_report.specs.Kinds.{walks_in, with_more_paths}
use Rattle.compare_report.proofs.kinds.more_in.Given as goal

abbrev pub invariant-loop-other : goal.invariant-loop-other
invariant-loop-other l = with_more_paths l.walks (walks_in l.kind l.kinds) ≡ with_more_paths l.walks (walks_in l.kind (drop l.other-index l.kinds))
