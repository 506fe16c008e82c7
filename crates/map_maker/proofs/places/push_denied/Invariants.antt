use Rattle.std.proofs.Common.{◌≡◌, ◌++◌, take, map, false}
use Rattle.route_maps.specs.OfConfig.{line}
use Rattle.map_maker.specs.Places.{at_places}
use Rattle.map_maker.proofs.places.push_denied.Given as goal

abbrev pub invariant-loop-place : goal.invariant-loop-place
invariant-loop-place l = l.lines ≡ l.initial.lines ++ map (line false) (at_places l.patterns (take l.place-index l.places))
