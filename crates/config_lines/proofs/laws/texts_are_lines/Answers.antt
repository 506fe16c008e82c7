use Rattle.config_lines.proofs.WrittenForms.{lines_read}
use Rattle.config_lines.proofs.laws.texts_are_lines.Goals as goal

pub returns : goal.returns
returns c = λ edition count l few is. (lines_read edition count l few is).0
