use Rattle.std.proofs.Common.{◌≡◌, ◌+◌, ◌++◌, drop, take}
use Rattle.std.specs.List.{AllByRecursion}
use Rattle.net_base.specs.Prefixes.{IsPattern}
use Rattle.map_maker.specs.Earlier.{entries_from}
use Rattle.map_maker.proofs.earlier.entries_of.Given as goal

abbrev pub invariant-loop-pattern : goal.invariant-loop-pattern
invariant-loop-pattern l = record {
  rules : AllByRecursion IsPattern (take l.pattern-index l.patterns);
  place : l.place ≡ l.first + l.pattern-index;
  rest : entries_from l.first l.patterns ≡ l.entries.items ++ entries_from l.place (drop l.pattern-index l.patterns);
}
