use Rattle.promises_text.proofs.PartLines.{open_lines_are_what_is_taken}
use Rattle.promises_text.proofs.laws.open_lines_are_what_is_taken.Goals as goal

pub returns : goal.returns
returns c = open_lines_are_what_is_taken
