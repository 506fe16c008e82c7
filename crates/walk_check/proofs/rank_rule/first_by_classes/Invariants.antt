use Rattle.std.proofs.Common.{◌≡◌, ℕ, ◌<◌}
use Rattle.graph_base.specs.Runs.{rank_at}
use Rattle.node_classes.specs.Classes.{class_in}
use Rattle.walk_check.proofs.rank_rule.first_by_classes.Given as goal

abbrev pub invariant-loop-node : goal.invariant-loop-node
invariant-loop-node l = (n : ℕ) → n < l.node → rank_at l.graph n ≡ rank_at l.live (class_in l.classes.graph n)
