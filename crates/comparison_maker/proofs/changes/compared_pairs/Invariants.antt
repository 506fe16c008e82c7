use Rattle.policy_base.specs.Policies.{PlainPolicy}
use Rattle.comparison_maker.specs.Compared.{AreGraphsOfBoth}
use Rattle.comparison_maker.proofs.Comparing.{AreComparedTo}
use Rattle.comparison_maker.proofs.changes.compared_pairs.Given as goal

abbrev pub invariant-loop-pair : goal.invariant-loop-pair
invariant-loop-pair l = (old new : PlainPolicy) → AreGraphsOfBoth l.net old new l.graphs → AreComparedTo l.net old new l.fn.pairs l.yielded l.all l.room
