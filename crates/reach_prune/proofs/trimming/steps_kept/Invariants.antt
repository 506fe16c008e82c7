use Rattle.std.proofs.Common.{◌≡◌, take}
use Rattle.std.specs.List.{filter_map}
use Rattle.reach_prune.specs.Numbers.{step_in}
use Rattle.reach_prune.proofs.trimming.steps_kept.Given as goal

abbrev pub invariant-loop-step : goal.invariant-loop-step
invariant-loop-step l = l.list ≡ filter_map (step_in l.numbers) (take l.step-index l.steps)
