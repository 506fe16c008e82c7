use Rattle.std.proofs.Common.{◌≡◌, ◌++◌, take}
use Rattle.std.specs.List.{flat_map}
use Rattle.compare_lines.specs.Prefixes.{common_line}
use Rattle.compare_lines.proofs.prefixes.push_patterns.Given as goal

abbrev pub invariant-loop-common : goal.invariant-loop-common
invariant-loop-common l = l.text.items ≡ l.initial.text.items ++ flat_map common_line (take l.common-index l.patterns)
