use Rattle.std.proofs.Common.{◌≡◌, length}
use Rattle.reach_prune.proofs.steps.step_counts.Given as goal

abbrev pub invariant-loop-step : goal.invariant-loop-step
invariant-loop-step l = length l.counts.items ≡ length l.graph.nodes
