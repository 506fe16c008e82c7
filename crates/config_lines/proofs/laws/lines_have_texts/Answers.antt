use Rattle.config_lines.proofs.ReadForms.{lines_written}
use Rattle.config_lines.proofs.laws.lines_have_texts.Goals as goal

pub returns : goal.returns
returns c = lines_written
