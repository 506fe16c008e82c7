use Rattle.std.proofs.Common.{sym}
use Rattle.config_lines.proofs.LongLines.{long_piece}
use Rattle.config_lines.proofs.pattern.read_later_pattern.Goals as goal

pub returns-in-None : goal.returns-in-None
returns-in-None c = sym (long_piece _ c.in-None.ensures.none)
