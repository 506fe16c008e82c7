use Rattle.settled_graph.proofs.Opening.{IsOpeningTo}
use Rattle.settled_graph.proofs.fronts.opening.Given as goal

abbrev pub invariant-loop-start : goal.invariant-loop-start
invariant-loop-start l = IsOpeningTo l.graph l.start-index l.routes.items
