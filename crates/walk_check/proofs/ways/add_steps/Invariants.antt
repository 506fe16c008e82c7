use Rattle.std.proofs.Common.{◌≡◌, ◌++◌, map, take}
use Rattle.walk_check.specs.WaysOf.{step_way}
use Rattle.walk_check.proofs.ways.add_steps.Given as goal

abbrev pub invariant-loop-step : goal.invariant-loop-step
invariant-loop-step l = l.ways.items ≡ l.fn.ways.items ++ map (step_way l.graph l.first) (take l.step-index l.step-items)
