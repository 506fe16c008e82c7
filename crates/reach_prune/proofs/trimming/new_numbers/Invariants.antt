use Rattle.std.proofs.Common.{◌≡◌, ℕ, ◌<◌, length}
use Rattle.reach_prune.specs.Numbers.{number_in, number_kept}
use Rattle.reach_prune.specs.Searches.{is_marked}
use Rattle.list_law.specs.Counts.{kept_below}
use Rattle.reach_prune.proofs.trimming.new_numbers.Given as goal

abbrev pub invariant-loop-keep : goal.invariant-loop-keep
invariant-loop-keep l = record {
  size : length l.numbers.items ≡ l.keep-index;
  count : l.count ≡ kept_below (is_marked l.kept) l.keep-index;
  numbers : (n : ℕ) → n < l.keep-index → number_in l.numbers.items n ≡ number_kept (is_marked l.kept) n;
}
