use Rattle.std.proofs.Common.{◌≡◌, ◌≤◌, take}
use Rattle.std.specs.List.{count_by}
use Rattle.comparison.specs.Changed.{is_changed}
use Rattle.compare_report.proofs.text.changed.Given as goal

abbrev pub invariant-loop-pair : goal.invariant-loop-pair
invariant-loop-pair l = (l.count ≡ count_by (is_changed l.net) (take l.pair-index l.pairs)) × (l.count ≤ l.pair-index)
