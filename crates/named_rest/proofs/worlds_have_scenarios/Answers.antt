use Rattle.named_rest.proofs.Reached.{every_world_has_an_outcome}
use Rattle.named_rest.proofs.Scenarios.{every_world_has_a_scenario, fair_schedules_exist}
use Rattle.named_rest.proofs.worlds_have_scenarios.Goals as goal

pub returns-clause-scenarios : goal.returns-clause-scenarios
returns-clause-scenarios c = every_world_has_a_scenario

pub returns-clause-schedules : goal.returns-clause-schedules
returns-clause-schedules c = fair_schedules_exist

pub returns-clause-outcomes : goal.returns-clause-outcomes
returns-clause-outcomes c = every_world_has_an_outcome
