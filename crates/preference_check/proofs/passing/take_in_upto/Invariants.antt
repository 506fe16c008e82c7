use Rattle.std.proofs.Common.{◌≤◌, ◌-◌, length}
use Rattle.preference_check.specs.Runs.{AreTaken}
use Rattle.preference_check.proofs.passing.take_in_upto.Given as goal

abbrev pub invariant-next : goal.invariant-next
invariant-next l = record {
  bound : l.next ≤ length l.run;
  taken : AreTaken l.offers l.run l.next l.owed.least.items;
}

abbrev pub decreases-next : goal.decreases-next
decreases-next l = length l.run - l.next
