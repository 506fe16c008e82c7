use Rattle.std.proofs.Common.{sym}
use Rattle.route_map_text.proofs.LongMapLines.{long_line}
use Rattle.route_map_text.proofs.read.read_map_line.Goals as goal

pub returns-in-None : goal.returns-in-None
returns-in-None c = sym (long_line c.args.lists _ c.in-None.ensures.none)
