use Rattle.std.proofs.Common.{◌≡◌, ◌+◌, map, drop}
use Rattle.serde_json.specs.View.{view}
use Rattle.net_base.specs.Steps.{each_from}
use Rattle.location_names.specs.Names.{texts}
use Rattle.json_values.proofs.ItemsRead.{with_front}
use Rattle.table_reader.specs.Shape.{text_of}
use Rattle.table_reader.proofs.shape.each_text.Given as goal

abbrev pub invariant-loop-value : goal.invariant-loop-value
invariant-loop-value l =
    with_front (texts l.all.items) (each_from (λ _. text_of l.place) (l.value-index + 1) (map view (drop l.value-index l.values)))
    ≡ each_from (λ _. text_of l.place) 1 (map view l.values)
