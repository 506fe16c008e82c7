use Rattle.std.proofs.Common.{◌≡◌, filter, take}
use Rattle.settled_outcome.specs.Surviving.{steps_by}
use Rattle.settled_outcome.proofs.left.open_steps.Given as goal

abbrev pub invariant-loop-step : goal.invariant-loop-step
invariant-loop-step l = l.steps ≡ filter (steps_by l.net l.survivors l.graph) (take l.step-index l.step-items)
