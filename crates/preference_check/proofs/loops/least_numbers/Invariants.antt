use Rattle.preference_check.specs.Floods.{AreLeast}
use Rattle.preference_check.proofs.loops.least_numbers.Given as goal

abbrev pub invariant-loop-node : goal.invariant-loop-node
invariant-loop-node l = AreLeast l.graph l.numbers l.marks l.node l.least.least.items
