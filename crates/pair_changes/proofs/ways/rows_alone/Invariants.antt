use Rattle.std.proofs.Common.{◌≡◌, take}
use Rattle.pair_rows.specs.Meetings.{rows_alone}
use Rattle.pair_changes.proofs.ways.rows_alone.Given as goal

abbrev pub invariant-loop-first : goal.invariant-loop-first
invariant-loop-first l = l.list ≡ rows_alone (take l.first-index l.rows)
