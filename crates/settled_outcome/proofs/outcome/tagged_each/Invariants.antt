use Rattle.std.proofs.Common.{◌≡◌, ℕ, ◌<◌, length}
use Rattle.std.specs.Prelude.{option_map}
use Rattle.settled_graph.specs.Best.{entry_at}
use Rattle.settled_outcome.specs.Outcomes.{tagged}
use Rattle.settled_outcome.proofs.outcome.tagged_each.Given as goal

abbrev pub invariant-loop-router : goal.invariant-loop-router
invariant-loop-router l = record {
  size : length l.routes.items ≡ l.router;
  routes : (r : ℕ) → r < l.router → entry_at l.routes.items r ≡ option_map (tagged l.case) (entry_at l.settled r);
}
