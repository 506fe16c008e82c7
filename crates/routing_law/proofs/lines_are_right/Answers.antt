use Rattle.routing_law.proofs.Used.{lines_are_right}
use Rattle.routing_law.proofs.lines_are_right.Goals as goal

pub returns : goal.returns
returns c = lines_are_right
