use Rattle.config_lines.proofs.Ranges.{line_wide}
use Rattle.config_lines.proofs.laws.lines_of_either_edition.Goals as goal

pub returns : goal.returns
returns c = line_wide
