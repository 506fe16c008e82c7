use Rattle.json_law.proofs.Texts.{read_texts_are_written}
use Rattle.json_law.proofs.read_texts_are_written.Goals as goal

pub returns : goal.returns
returns c = read_texts_are_written
