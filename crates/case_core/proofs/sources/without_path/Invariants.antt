use Rattle.std.proofs.Common.{◌≡◌, None}
use Rattle.graph_base.specs.Least.{least_below}
use Rattle.case_core.specs.Firsts.{lacks_path}
use Rattle.case_core.proofs.sources.without_path.Given as goal

abbrev pub invariant-loop-i : goal.invariant-loop-i
invariant-loop-i l = least_below l.i (lacks_path l.from l.origins l.table) ≡ None
