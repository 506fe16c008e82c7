use Rattle.std.proofs.Common.{◌≡◌, ℕ, ◌<◌, true, slice_index_or}
use Rattle.walk_check.specs.Formed.{step_fits}
use Rattle.walk_check.proofs.formed.steps_fit.Given as goal

abbrev pub invariant-loop-step : goal.invariant-loop-step
invariant-loop-step l = (k : ℕ) (d : ℕ × ℕ) → k < l.step-index → step_fits l.net l.case.external l.graph (slice_index_or l.step-items k d) ≡ true
