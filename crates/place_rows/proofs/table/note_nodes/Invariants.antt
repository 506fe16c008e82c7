use Rattle.std.proofs.Common.{◌≡◌, length, take}
use Rattle.pair_rows.specs.Meetings.{node_mets}
use Rattle.place_rows.specs.Noted.{AreNotedAt}
use Rattle.place_rows.proofs.table.note_nodes.Given as goal

abbrev pub invariant-loop-node : goal.invariant-loop-node
invariant-loop-node l = record {
  size : length l.routers.items ≡ length l.initial.routers.items;
  noted : AreNotedAt (node_mets l.first l.second (take l.node l.both.pairs) 0) l.routers.items;
}
