use Rattle.settled_graph.proofs.Taking.{IsSoFar}
use Rattle.settled_graph.proofs.fronts.settle_offers.Given as goal

abbrev pub invariant-loop-place : goal.invariant-loop-place
invariant-loop-place l = IsSoFar l.graph l.offers l.initial.routes.items l.initial.wanted.items l.place l.routes.items l.wanted.items l.front.items
