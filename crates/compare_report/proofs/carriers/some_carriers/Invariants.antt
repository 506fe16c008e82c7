use Rattle.std.proofs.Common.{◌≡◌, drop}
use Rattle.std.specs.List.{list_any}
use Rattle.compare_report.specs.Groups.{seen}
use Rattle.compare_report.specs.Kinds.{has_carriers}
use Rattle.compare_report.proofs.carriers.some_carriers.Given as goal

abbrev pub invariant-loop-pair : goal.invariant-loop-pair
invariant-loop-pair l = list_any (has_carriers l.which) (seen l.group) ≡ list_any (has_carriers l.which) (seen (drop l.pair-index l.group))
