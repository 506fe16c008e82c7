use Rattle.promises_text.proofs.PartLines.{open_lines_tell_of_parts}
use Rattle.promises_text.proofs.laws.open_lines_tell_of_parts.Goals as goal

pub returns : goal.returns
returns c = open_lines_tell_of_parts
