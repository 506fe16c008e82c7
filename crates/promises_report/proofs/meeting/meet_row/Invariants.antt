use Rattle.std.proofs.Common.{◌≡◌, ◌<◌, ◌==◌, ◌||◌, ◌&&◌, ℕ, nat_lt}
use Rattle.bit_rows.specs.Tables.{IsSameSize, has_at}
use Rattle.promises_report.specs.Tables.{meet_by}
use Rattle.promises_report.proofs.meeting.meet_row.Given as goal

abbrev pub invariant-loop-j : goal.invariant-loop-j
invariant-loop-j l = record {
  size : IsSameSize l.met l.initial.met;
  bits : (a b : ℕ) → a < l.initial.met.count → has_at l.met a b ≡ (has_at l.initial.met a b || (nat_lt b l.j && (a == l.i && meet_by l.rows a b)));
}
