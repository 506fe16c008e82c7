use Rattle.std.proofs.Common.{◌≡◌, ◌++◌, take, Some}
use Rattle.std.specs.List.{flat_map}
use Rattle.route_maps.specs.declared.maps.ListLine.{ListLine}
use Rattle.route_map_text.specs.declared.line.MapLine.TheVariants.{List as ListOf}
use Rattle.route_map_text.specs.MapsLines.{fed}
use Rattle.route_map_text.specs.MapsSpelled.{HavePatterns}
use Rattle.route_map_text.proofs.blocks.push_list.Given as goal

abbrev pub invariant-loop-line : goal.invariant-loop-line
invariant-loop-line l = record {
  text : l.text.items ≡ l.initial.text.items ++ flat_map (λ (x : ListLine). fed (ListOf (Some l.number) x)) (take l.line-index l.lines);
  rules : HavePatterns (take l.line-index l.lines);
}
