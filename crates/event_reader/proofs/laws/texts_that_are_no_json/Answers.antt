use Rattle.event_reader.proofs.TextLaws.{answers}
use Rattle.event_reader.proofs.laws.texts_that_are_no_json.Goals as goal

pub returns-clause-only : goal.returns-clause-only
returns-clause-only c = λ net. (answers net).not_json_only

pub returns-clause-all : goal.returns-clause-all
returns-clause-all c = λ net. (answers net).not_json_all
