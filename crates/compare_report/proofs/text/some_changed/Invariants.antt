use Rattle.std.proofs.Common.{◌≡◌, drop}
use Rattle.std.specs.List.{list_any}
use Rattle.comparison.specs.Changed.{is_changed}
use Rattle.compare_report.specs.Groups.{seen}
use Rattle.compare_report.proofs.text.some_changed.Given as goal

abbrev pub invariant-loop-pair : goal.invariant-loop-pair
invariant-loop-pair l = list_any (is_changed l.net) (seen l.group) ≡ list_any (is_changed l.net) (seen (drop l.pair-index l.group))
