use Rattle.std.proofs.Common.{◌+◌, arith}
use Rattle.pair_graph.proofs.Turns.{run_is, run_ordered}
use Rattle.pair_graph.proofs.runs.ends_of.Goals as goal

pub returns-clause-order : goal.returns-clause-order
returns-clause-order c = run_ordered c.args.node c.args.ways.now _ _ (c.requires.runs c.args.node 0 (omega (arith, c.requires.node))) (c.requires.runs (c.args.node + 1) 0 c.requires.node)

pub returns-clause-bound : goal.returns-clause-bound
returns-clause-bound c = let end = c.requires.runs (c.args.node + 1) 0 c.requires.node in end.within

pub returns-clause-run : goal.returns-clause-run
returns-clause-run c = run_is c.args.node c.args.ways.now _ _ (c.requires.runs c.args.node 0 (omega (arith, c.requires.node))) (c.requires.runs (c.args.node + 1) 0 c.requires.node)
