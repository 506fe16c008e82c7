use Rattle.std.proofs.Common.{◌≡◌, ◌++◌, take}
use Rattle.map_maker.proofs.lists.push_class.Given as goal

abbrev pub invariant-loop-pattern : goal.invariant-loop-pattern
invariant-loop-pattern l = l.patterns ≡ l.initial.patterns ++ take l.pattern-index l.class
