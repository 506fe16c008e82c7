use Rattle.std.proofs.Common.{◌≡◌, None, replicate}
use Rattle.settled_outcome.proofs.outcome.no_routes.Given as goal

abbrev pub invariant-loop : goal.invariant-loop
invariant-loop l = l.routes.items ≡ replicate l.counter None
