use Rattle.std.proofs.Common.{◌≡◌, ◌≤◌, ◌⊎◌, ℕ, IsTrue, length}
use Rattle.reach_prune.specs.Searches.{is_marked}
use Rattle.preference_check.specs.Runs.{AreTaken, IsMatching}
use Rattle.preference_check.proofs.passing.mark_matching.Given as goal

abbrev pub invariant-loop-entry : goal.invariant-loop-entry
invariant-loop-entry l = record {
  bound : l.count ≤ length l.run;
  taken : AreTaken l.offers l.run l.count l.owed.least.items;
  size : length l.marks.items ≡ length l.initial.marks.items;
  marks : (m : ℕ) → IsTrue (is_marked l.marks.items m) → IsTrue (is_marked l.initial.marks.items m) ⊎ IsMatching l.offers l.run m;
}
