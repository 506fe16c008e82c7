use Rattle.event_reader.proofs.TextLaws.{answers}
use Rattle.event_reader.proofs.laws.texts_of_another_shape.Goals as goal

pub returns-clause-only : goal.returns-clause-only
returns-clause-only c = λ net. (answers net).shape_only

pub returns-clause-all : goal.returns-clause-all
returns-clause-all c = λ net. (answers net).shape_all
