use Rattle.std.proofs.Common.{◌≡◌, ◌∷◌, take, filter}
use Rattle.compare_report.specs.Groups.{seen, is_with}
use Rattle.compare_report.proofs.groups.group_of.Given as goal

abbrev pub invariant-loop-other : goal.invariant-loop-other
invariant-loop-other l = seen l.group.items ≡ l.first ∷ filter (is_with l.first) (take l.other-index l.after)
