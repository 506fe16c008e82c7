use Rattle.std.proofs.Common.{ap, ◌∙◌}
use Rattle.config_lines.specs.Lines.{line_of, pieces_line}
use Rattle.config_lines.proofs.LongLines.{long_line}
use Rattle.config_lines.proofs.read.read_line.Goals as goal

pub returns-in-None : goal.returns-in-None
unfolding line_of
returns-in-None c = λ _. ap (pieces_line c.args.edition c.args.classes) c.first_part.ensures ∙ long_line c.args.edition c.args.classes _ _ c.in-None.ensures.none
