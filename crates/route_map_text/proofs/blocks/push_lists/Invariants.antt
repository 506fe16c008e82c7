use Rattle.std.proofs.Common.{◌≡◌, ◌+◌, ◌++◌, take, drop}
use Rattle.std.specs.List.{flat_map, AllByRecursion}
use Rattle.route_map_text.specs.MapsLines.{fed, lines_of_lists}
use Rattle.route_map_text.specs.MapsSpelled.{HavePatterns}
use Rattle.route_map_text.proofs.blocks.push_lists.Given as goal

abbrev pub invariant-loop-lines : goal.invariant-loop-lines
invariant-loop-lines l = record {
  number : l.number ≡ l.lines-index + 1;
  rest : l.initial.text.items ++ flat_map fed (lines_of_lists 1 l.lists) ≡ l.text.items ++ flat_map fed (lines_of_lists l.number (drop l.lines-index l.lists));
  rules : AllByRecursion HavePatterns (take l.lines-index l.lists);
}
