use Rattle.std.proofs.Common.{◌≡◌, ◌++◌, map, take}
use Rattle.first_patterns.specs.Firsts.{stated}
use Rattle.first_patterns.proofs.firsts.push_patterns.Given as goal

abbrev pub invariant-loop-pattern : goal.invariant-loop-pattern
invariant-loop-pattern l = l.all.items ≡ l.initial.all.items ++ map (stated l.statement) (take l.pattern-index l.patterns)
