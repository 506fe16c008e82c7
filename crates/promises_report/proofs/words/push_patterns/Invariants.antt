use Rattle.std.proofs.Common.{◌≡◌, ◌++◌, take}
use Rattle.std.specs.List.{flat_map}
use Rattle.promises_report.specs.Groups.{comma_pattern}
use Rattle.promises_report.proofs.words.push_patterns.Given as goal

abbrev pub invariant-loop-pattern : goal.invariant-loop-pattern
invariant-loop-pattern l = l.text.items ≡ l.initial.text.items ++ flat_map comma_pattern (take l.pattern-index l.patterns)
