use Rattle.std.proofs.Common.{take}
use Rattle.pair_rows.specs.Meetings.{rows_alone}
use Rattle.place_rows.specs.Rows.{rows_of}
use Rattle.pair_changes.specs.Changes.{AreInOrder}
use Rattle.pair_changes.specs.Kinds.{AreKinds, IsNumberOf, way_by}
use Rattle.pair_changes.proofs.kinds.kinds_of.Given as goal

abbrev pub invariant-loop-place : goal.invariant-loop-place
invariant-loop-place l = record {
  kinds : AreInOrder l.places → AreKinds (λ q. way_by (rows_alone (rows_of l.table q))) (take l.place-index l.places) l.kinds.items;
  number : IsNumberOf l.kinds.items (way_by (rows_alone l.last)) l.number;
}
