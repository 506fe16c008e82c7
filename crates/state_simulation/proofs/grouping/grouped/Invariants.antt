use Rattle.std.proofs.Common.{◌≡◌, ℕ, length, take}
use Rattle.reach_prune.specs.Searches.{is_listed}
use Rattle.relation_law.specs.Rounds.{is_in}
use Rattle.state_simulation.proofs.grouping.grouped.Given as goal

abbrev pub invariant-loop-group : goal.invariant-loop-group
invariant-loop-group l = record {
  groups : length l.lists.items ≡ l.groups;
  members : (a b : ℕ) → is_listed l.lists.items a b ≡ is_in (take l.group-index l.pairs) a b;
}
