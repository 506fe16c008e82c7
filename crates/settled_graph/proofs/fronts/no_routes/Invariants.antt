use Rattle.std.proofs.Common.{◌≡◌, None, replicate}
use Rattle.settled_graph.proofs.fronts.no_routes.Given as goal

abbrev pub invariant-loop : goal.invariant-loop
invariant-loop l = l.routes.items ≡ replicate l.counter None
