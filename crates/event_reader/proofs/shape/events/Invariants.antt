use Rattle.std.proofs.Common.{◌≡◌, ◌+◌, length, map, drop}
use Rattle.net_base.specs.Steps.{each_from}
use Rattle.serde_json.specs.View.{view}
use Rattle.json_values.proofs.ItemsRead.{with_front}
use Rattle.event_reader.specs.Shape.{event_of}
use Rattle.event_reader.specs.Views.{raw_event}
use Rattle.event_reader.proofs.shape.events.Given as goal

abbrev pub invariant-loop-value : goal.invariant-loop-value
invariant-loop-value l = record {
  count : length l.all.items ≡ l.value-index;
  read : with_front (map raw_event l.all.items) (each_from event_of (l.value-index + 1) (map view (drop l.value-index l.values))) ≡ each_from event_of 1 (map view l.values);
}
