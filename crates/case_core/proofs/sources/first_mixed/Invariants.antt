use Rattle.std.proofs.Common.{◌≡◌, None}
use Rattle.graph_base.specs.Least.{least_below}
use Rattle.case_core.specs.Firsts.{has_both}
use Rattle.case_core.proofs.sources.first_mixed.Given as goal

abbrev pub invariant-loop-i : goal.invariant-loop-i
invariant-loop-i l = least_below l.i (has_both l.table) ≡ None
