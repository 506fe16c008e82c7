use Rattle.std.proofs.Common.{◌≡◌, get_or, map, take}
use Rattle.path_automata.proofs.starts.picked.Given as goal

abbrev pub invariant-loop-i : goal.invariant-loop-i
invariant-loop-i l = l.all.items ≡ map (λ p. get_or l.terms p 0) (take l.i l.places)
