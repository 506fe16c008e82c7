use Rattle.std.proofs.Common.{◌≡◌, take}
use Rattle.std.specs.List.{flat_map}
use Rattle.drain_report.specs.Steps.{held_steps}
use Rattle.drain_report.proofs.steps.route_steps.Given as goal

abbrev pub invariant-loop-held : goal.invariant-loop-held
invariant-loop-held l = l.steps ≡ flat_map held_steps (take l.held-index l.held-items)
