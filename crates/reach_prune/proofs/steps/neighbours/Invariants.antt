use Rattle.std.proofs.Common.{◌≡◌, ℕ, length, take}
use Rattle.std.specs.List.{list_any}
use Rattle.reach_prune.specs.Searches.{is_listed}
use Rattle.reach_prune.proofs.Listing.{goes}
use Rattle.reach_prune.proofs.steps.neighbours.Given as goal

abbrev pub invariant-loop-step : goal.invariant-loop-step
invariant-loop-step l = record {
  size : length l.lists.items ≡ length l.graph.nodes;
  steps : (a b : ℕ) → is_listed l.lists.items a b ≡ list_any (goes l.way a b) (take l.step-index l.step-items);
}
