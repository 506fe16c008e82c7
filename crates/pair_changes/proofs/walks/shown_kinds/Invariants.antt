use Rattle.std.proofs.Common.{take}
use Rattle.place_rows.specs.Rows.{rows_of}
use Rattle.pair_changes.specs.Walks.{AreAllShown}
use Rattle.pair_changes.proofs.walks.shown_kinds.Given as goal

abbrev pub invariant-loop-kind : goal.invariant-loop-kind
invariant-loop-kind l = AreAllShown l.both.graph (rows_of l.table) (take l.kind-index l.kinds) l.shown
