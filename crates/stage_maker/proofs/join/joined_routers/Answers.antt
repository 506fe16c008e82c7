use Rattle.std.proofs.Common.{arith}
use Rattle.stage_maker.proofs.Ends.{all_routers}
use Rattle.stage_maker.proofs.join.joined_routers.Goals as goal

pub returns : goal.returns
returns c = all_routers c.args.cells.now c.args.start.now c.args.other.now c.loop-i.routers c.loop-i.i (omega arith) c.loop-i.invariant
