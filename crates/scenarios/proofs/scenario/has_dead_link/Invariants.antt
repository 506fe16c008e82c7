use Rattle.std.proofs.Common.{◌≡◌, ◌-◌, drop}
use Rattle.policy_base.specs.Meaning.{some_step}
use Rattle.outcome_base.specs.Outcomes.{is_dead_link}
use Rattle.scenarios.specs.Scenarios.{failures_of}
use Rattle.scenarios.proofs.scenario.has_dead_link.Given as goal

abbrev pub invariant-loop-i : goal.invariant-loop-i
invariant-loop-i l = some_step (is_dead_link (failures_of l.scenario)) l.path ≡ some_step (is_dead_link (failures_of l.scenario)) (drop (l.i - 1) l.path)
