use Rattle.std.proofs.Common.{◌≡◌, ◌++◌, take}
use Rattle.drain_report.specs.Steps.{steps_of}
use Rattle.drain_report.proofs.steps.push_steps.Given as goal

abbrev pub invariant-loop-place : goal.invariant-loop-place
invariant-loop-place l = l.steps ≡ l.initial.steps ++ steps_of (take l.place l.path)
