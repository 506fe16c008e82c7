use Rattle.topology.proofs.TextLaws.{answers}
use Rattle.topology.proofs.laws.texts_that_are_no_json.Goals as goal

pub returns-clause-only : goal.returns-clause-only
returns-clause-only c = answers.not_json_only

pub returns-clause-all : goal.returns-clause-all
returns-clause-all c = answers.not_json_all
