use Rattle.std.proofs.Common.{arith}
use Rattle.pair_graph.proofs.side.Side.ways_of.Goals as goal

pub returns-clause-order : goal.returns-clause-order
returns-clause-order c = λ i j d le lt. absurd (omega (arith, lt))
