use Rattle.event_law.proofs.Scenario.{worlds_have_scenarios}
use Rattle.event_law.proofs.worlds.worlds_have_scenarios.Goals as goal

pub returns : goal.returns
returns c = worlds_have_scenarios
