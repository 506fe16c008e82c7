use Rattle.std.proofs.Common.{◌≡◌, ℕ, ◌<◌}
use Rattle.node_quotient.specs.Alike.{class_in}
use Rattle.node_quotient.proofs.first.is_each_alone.Given as goal

abbrev pub invariant-loop-node : goal.invariant-loop-node
invariant-loop-node l = (n : ℕ) → n < l.node → class_in l.classes n ≡ n
