use Rattle.std.proofs.Common.{◌≡◌, ◌+◌, map, drop}
use Rattle.serde_json.specs.View.{view}
use Rattle.net_base.specs.Steps.{each_from}
use Rattle.scenario_reader.specs.Shape.{ends_of}
use Rattle.scenario_reader.specs.Views.{raw_ends}
use Rattle.json_values.proofs.ItemsRead.{with_front}
use Rattle.scenario_reader.proofs.shape.each_ends.Given as goal

abbrev pub invariant-loop-value : goal.invariant-loop-value
invariant-loop-value l =
    with_front (map raw_ends l.all.items) (each_from (λ _. ends_of l.field) (l.value-index + 1) (map view (drop l.value-index l.values)))
    ≡ each_from (λ _. ends_of l.field) 1 (map view l.values)
