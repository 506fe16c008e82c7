use Rattle.std.proofs.Common.{◌≡◌, length, take}
use Rattle.std.specs.List.{flat_map}
use Rattle.pair_rows.specs.Meetings.{step_mets}
use Rattle.place_rows.specs.Noted.{AreNoted}
use Rattle.place_rows.specs.Told.{told}
use Rattle.place_rows.proofs.table.note_steps.Given as goal

abbrev pub invariant-loop-from : goal.invariant-loop-from
invariant-loop-from l = record {
  size : length l.places.keys ≡ length l.rows.items;
  noted : AreNoted (told l.net (flat_map (step_mets l.first l.second l.both.pairs) (take l.from-index l.both.graph.steps))) l.places.keys l.rows.items;
}
