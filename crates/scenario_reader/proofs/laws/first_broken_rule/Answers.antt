use Rattle.scenario_reader.proofs.TextLaws.{answers}
use Rattle.scenario_reader.proofs.laws.first_broken_rule.Goals as goal

pub returns-clause-only : goal.returns-clause-only
returns-clause-only c = λ net. (answers net).broken_only

pub returns-clause-all : goal.returns-clause-all
returns-clause-all c = λ net. (answers net).broken_all
