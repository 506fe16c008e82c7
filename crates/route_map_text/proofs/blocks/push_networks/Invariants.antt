use Rattle.std.proofs.Common.{◌≡◌, ◌++◌, take}
use Rattle.std.specs.List.{flat_map, AllByRecursion}
use Rattle.config_base.specs.declared.config.Origination.{Origination}
use Rattle.config_text.specs.Spelled.{HasPrefix}
use Rattle.route_map_text.specs.MapsLines.{fed, network_of}
use Rattle.route_map_text.proofs.blocks.push_networks.Given as goal

abbrev pub invariant-loop-own : goal.invariant-loop-own
invariant-loop-own l = record {
  text : l.text.items ≡ l.initial.text.items ++ flat_map (λ (o : Origination). fed (network_of o)) (take l.own-index l.owns);
  rules : AllByRecursion HasPrefix (take l.own-index l.owns);
}
