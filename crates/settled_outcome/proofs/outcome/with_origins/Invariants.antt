use Rattle.std.proofs.Common.{◌≡◌, ℕ, ◌≤◌, ◌<◌, length, option_map}
use Rattle.settled_graph.specs.Best.{entry_at}
use Rattle.settled_outcome.specs.Outcomes.{held_by, started_route}
use Rattle.settled_outcome.proofs.outcome.with_origins.Given as goal

abbrev pub invariant-loop-place : goal.invariant-loop-place
invariant-loop-place l = record {
  few : length l.net.routers ≤ 512;
  size : length l.routes.items ≡ length l.net.routers;
  done : (r : ℕ) → r < l.place → entry_at l.routes.items r ≡ held_by l.survivors l.origins (started_route (option_map (λ c. c.now) l.case)) (entry_at l.fn.others.items) r;
  left : (r : ℕ) → l.place ≤ r → entry_at l.routes.items r ≡ entry_at l.fn.others.items r;
}
