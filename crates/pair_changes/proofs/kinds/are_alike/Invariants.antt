use Rattle.std.proofs.Common.{◌≡◌, take}
use Rattle.pair_rows.specs.Meetings.{rows_alone}
use Rattle.pair_changes.proofs.kinds.are_alike.Given as goal

abbrev pub invariant-loop-i : goal.invariant-loop-i
invariant-loop-i l = rows_alone (take l.i l.one) ≡ rows_alone (take l.i l.other)
