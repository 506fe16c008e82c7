use Rattle.std.proofs.Common.{◌≡◌, ◌+◌, map, drop}
use Rattle.serde_json.specs.View.{view}
use Rattle.net_base.specs.Steps.{each_from}
use Rattle.topology.specs.Shape.{ends_of}
use Rattle.topology.specs.Views.{raw_ends}
use Rattle.json_values.proofs.ItemsRead.{with_front}
use Rattle.topology.proofs.shape.links.Given as goal

abbrev pub invariant-loop-value : goal.invariant-loop-value
invariant-loop-value l = with_front (map raw_ends l.all.items) (each_from (λ _. ends_of) (l.value-index + 1) (map view (drop l.value-index l.values))) ≡ each_from (λ _. ends_of) 1 (map view l.values)
