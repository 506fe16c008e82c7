use Rattle.routing_law.proofs.Bridge.{lines_are_graph}
use Rattle.routing_law.proofs.Back.{graph_is_lines}
use Rattle.routing_law.proofs.lines_are_graph.Goals as goal

pub returns-clause-down : goal.returns-clause-down
returns-clause-down c = lines_are_graph

pub returns-clause-up : goal.returns-clause-up
returns-clause-up c = graph_is_lines
