use Rattle.std.proofs.Common.{take}
use Rattle.place_rows.specs.Rows.{rows_of}
use Rattle.pair_changes.specs.Changes.{IsExample}
use Rattle.pair_changes.specs.Walks.{AreWalks}
use Rattle.pair_changes.proofs.walks.example.Given as goal

abbrev pub invariant-loop-index : goal.invariant-loop-index
invariant-loop-index l = IsExample (λ place. AreWalks l.both.graph (rows_of l.table place) place.peer l.rows) (take l.index l.places) l.walks
