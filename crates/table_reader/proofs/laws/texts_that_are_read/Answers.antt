use Rattle.table_reader.proofs.TextLaws.{answers}
use Rattle.table_reader.proofs.laws.texts_that_are_read.Goals as goal

pub returns-clause-only : goal.returns-clause-only
returns-clause-only c = λ net. (answers net).read_only

pub returns-clause-all : goal.returns-clause-all
returns-clause-all c = λ net. (answers net).read_all
