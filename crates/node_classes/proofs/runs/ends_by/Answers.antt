use Rattle.std.proofs.Common.{◌+◌, arith}
use Rattle.node_classes.proofs.WayRuns.{begins_ordered, begins_run}
use Rattle.node_classes.proofs.runs.ends_by.Goals as goal

pub returns-clause-order : goal.returns-clause-order
returns-clause-order c = begins_ordered c.args.node c.args.ways.now _ _ (c.requires.starts c.args.node 0 (omega (arith, c.requires.node))) (c.requires.starts (c.args.node + 1) 0 c.requires.node)

pub returns-clause-bound : goal.returns-clause-bound
returns-clause-bound c = let end = c.requires.starts (c.args.node + 1) 0 c.requires.node in end.within

pub returns-clause-run : goal.returns-clause-run
returns-clause-run c = begins_run c.args.node c.args.ways.now _ _ (c.requires.starts c.args.node 0 (omega (arith, c.requires.node))) (c.requires.starts (c.args.node + 1) 0 c.requires.node)
