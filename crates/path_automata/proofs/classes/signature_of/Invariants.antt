use Rattle.std.proofs.Common.{◌≡◌, map, take}
use Rattle.net_base.specs.Sets.{holds}
use Rattle.path_automata.proofs.classes.signature_of.Given as goal

abbrev pub invariant-loop-set : goal.invariant-loop-set
invariant-loop-set l = l.signature.items ≡ map (λ s. holds s l.at) (take l.set-index l.sets)
