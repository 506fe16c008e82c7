use Rattle.std.proofs.Common.{◌≡◌, List, map, take}
use Rattle.path_exprs.specs.Expression.{Expression}
use Rattle.walk_states.specs.Built.{node_of}
use Rattle.path_exprs.specs.Standings.{plan_of}
use Rattle.walk_states.specs.Growth.{standings_of}
use Rattle.walk_states.proofs.reached.Reached.nodes.Given as goal

abbrev pub invariant-loop-number : goal.invariant-loop-number
invariant-loop-number l = (es : List Expression) → l.nodes.items ≡ map (node_of l.net (plan_of es l.from l.case)) (take l.number (standings_of l.self))
