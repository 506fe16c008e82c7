use Rattle.config_text.proofs.TextLines.{text_of_lines}
use Rattle.config_text.proofs.law.texts_are_lines.Goals as goal

pub returns : goal.returns
returns c = text_of_lines
