use Rattle.std.proofs.Common.{◌≡◌, ◌++◌, take}
use Rattle.std.specs.List.{flat_map, AllByRecursion}
use Rattle.config_base.specs.declared.config.RouterConfig.{RouterConfig}
use Rattle.config_text.specs.Spelled.{HasLawfulParts}
use Rattle.route_map_text.specs.MapsLines.{fed, lines_of_router}
use Rattle.route_map_text.proofs.blocks.push_routers.Given as goal

abbrev pub invariant-loop-router : goal.invariant-loop-router
invariant-loop-router l = record {
  text : l.text.items ≡ l.initial.text.items ++ flat_map (λ (x : RouterConfig). flat_map fed (lines_of_router x)) (take l.router-index l.routers);
  rules : AllByRecursion HasLawfulParts (take l.router-index l.routers);
}
