use Rattle.preference_check.proofs.OneNumber.{AreNoted}
use Rattle.graph_base.specs.Preferences.{number_in}
use Rattle.preference_check.proofs.loops.have_one_number.Given as goal

abbrev pub invariant-loop-node : goal.invariant-loop-node
invariant-loop-node l = AreNoted l.graph (number_in l.numbers) l.noted.least.items l.node
