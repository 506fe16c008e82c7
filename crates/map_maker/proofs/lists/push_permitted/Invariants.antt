use Rattle.std.proofs.Common.{◌≡◌, ◌++◌, take, map, true}
use Rattle.route_maps.specs.OfConfig.{line}
use Rattle.map_maker.proofs.lists.push_permitted.Given as goal

abbrev pub invariant-loop-pattern : goal.invariant-loop-pattern
invariant-loop-pattern l = l.lines ≡ l.initial.lines ++ map (line true) (take l.pattern-index l.class)
