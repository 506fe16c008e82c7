use Rattle.std.proofs.Common.{◌≡◌, ◌≤◌, ◌+◌, ◌++◌, [], drop, min}
use Rattle.std.specs.List.{AllByRecursion}
use Rattle.route_maps.specs.OfConfig.{lists_from}
use Rattle.map_maker.specs.Earlier.{top}
use Rattle.map_maker.specs.Lists.{IsIndexed}
use Rattle.map_maker.proofs.ListsLaws.{IsKnown, lines_in}
use Rattle.map_maker.proofs.lists.lists_of.Given as goal

abbrev pub invariant-loop-class : goal.invariant-loop-class
invariant-loop-class l = record {
  few : l.total ≤ top;
  rest : min (l.others + lines_in (lists_from [] l.classes)) top ≡ min (l.total + lines_in (lists_from l.earlier.patterns (drop l.class-index l.classes))) top;
  lists : l.total ≤ 1000000 → lists_from [] l.classes ≡ l.lists ++ lists_from l.earlier.patterns (drop l.class-index l.classes);
  index : IsIndexed l.earlier;
  known : AllByRecursion (IsKnown l.lengths.items) l.earlier.patterns;
}
