use Rattle.std.proofs.Common.{◌≡◌, ◌<◌, ◌+◌, ◌||◌, ◌&&◌, ℕ, nat_lt}
use Rattle.bit_rows.specs.Tables.{IsSameSize, has_at}
use Rattle.promises_report.specs.Tables.{meet_by}
use Rattle.promises_report.proofs.meeting.meet_rows.Given as goal

abbrev pub invariant-loop-i : goal.invariant-loop-i
invariant-loop-i l = record {
  size : IsSameSize l.met l.initial.met;
  bits : (a b : ℕ) → a < l.ranks + 1 → b < l.ranks + 1 → has_at l.met a b ≡ (has_at l.initial.met a b || (nat_lt a l.i && meet_by l.rows a b));
}
