use Rattle.std.proofs.Common.{◌≡◌, ◌∷◌, take}
use Rattle.settled_graph.proofs.fronts.path_from.Given as goal

abbrev pub invariant-loop-place : goal.invariant-loop-place
invariant-loop-place l = l.path ≡ l.fn.first ∷ take l.place-index l.rest
