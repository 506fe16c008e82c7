use Rattle.std.proofs.Common.{◌<◌, ℕ, ◌||◌, IsTrue}
use Rattle.state_simulation.specs.Held.{are_together, has}
use Rattle.state_simulation.proofs.table.Relation.has_each_of.Given as goal

abbrev pub invariant-loop-n : goal.invariant-loop-n
invariant-loop-n l = (n : ℕ) → n < l.n → IsTrue (are_together l.self l.m n) → IsTrue (has l.self l.m n || has l.self n l.m)
