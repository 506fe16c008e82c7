use Rattle.std.proofs.Common.{◌≡◌, drop}
use Rattle.compare_report.specs.Groups.{seen}
use Rattle.compare_report.specs.Kinds.{most_paths}
use Rattle.compare_report.proofs.kinds.example.Given as goal

abbrev pub invariant-loop-pair : goal.invariant-loop-pair
invariant-loop-pair l = most_paths l.walks l.kind (seen (drop l.pair-index l.group)) ≡ most_paths l.kind.walks l.kind (seen l.group)
