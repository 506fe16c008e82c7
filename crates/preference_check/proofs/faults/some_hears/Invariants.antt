use Rattle.std.proofs.Common.{◌≡◌, ℕ, ◌<◌, false}
use Rattle.graph_base.specs.Runs.{is_listener}
use Rattle.preference_check.proofs.faults.some_hears.Given as goal

abbrev pub invariant-loop-node : goal.invariant-loop-node
invariant-loop-node l = (n : ℕ) → n < l.node-index → is_listener l.graph n ≡ false
