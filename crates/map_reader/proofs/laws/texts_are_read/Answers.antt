use Rattle.map_reader.proofs.MapReadTexts.{read_is_spelled}
use Rattle.map_reader.proofs.MapTaken.{spelled_is_read}
use Rattle.map_reader.proofs.laws.texts_are_read.Goals as goal

pub returns-clause-only : goal.returns-clause-only
returns-clause-only c = read_is_spelled

pub returns-clause-all : goal.returns-clause-all
returns-clause-all c = spelled_is_read
