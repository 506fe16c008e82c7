use Rattle.std.proofs.Common.{◌≡◌, ◌≤◌, take}
use Rattle.std.specs.List.{count_by}
use Rattle.promises_report.specs.Standings.{is_wanted}
use Rattle.promises_report.proofs.counts.counted.Given as goal

abbrev pub invariant-loop-standing : goal.invariant-loop-standing
invariant-loop-standing l = (l.count ≡ count_by (is_wanted l.wanted) (take l.standing-index l.standings)) × (l.count ≤ l.standing-index)
