use Rattle.std.proofs.Common.{◌≡◌, ◌+◌, map, drop}
use Rattle.serde_json.specs.View.{view}
use Rattle.net_base.specs.Steps.{each_from}
use Rattle.json_values.proofs.ItemsRead.{with_front}
use Rattle.table_reader.specs.Shape.{entry_of}
use Rattle.table_reader.specs.Views.{raw_entry}
use Rattle.table_reader.proofs.shape.entries.Given as goal

abbrev pub invariant-loop-i : goal.invariant-loop-i
invariant-loop-i l = with_front (map raw_entry l.all.items) (each_from entry_of (l.i + 1) (map view (drop l.i l.values))) ≡ each_from entry_of 1 (map view l.values)
