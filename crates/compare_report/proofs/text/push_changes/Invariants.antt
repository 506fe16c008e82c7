use Rattle.std.proofs.Common.{◌≡◌, ◌++◌, [], take, drop}
use Rattle.compare_report.specs.Changes.{lines_from}
use Rattle.compare_report.proofs.text.push_changes.Given as goal

abbrev pub invariant-loop-i : goal.invariant-loop-i
invariant-loop-i l =
    l.text.items ++ lines_from l.net l.order (take l.i l.pairs) (drop l.i l.pairs) ≡ l.initial.text.items ++ lines_from l.net l.order [] l.pairs
