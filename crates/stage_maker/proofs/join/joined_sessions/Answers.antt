use Rattle.std.proofs.Common.{arith}
use Rattle.stage_maker.proofs.Ends.{all_sessions}
use Rattle.stage_maker.proofs.join.joined_sessions.Goals as goal

pub returns : goal.returns
returns c = all_sessions c.args.cells.now c.args.start.now c.args.other.now c.loop-i.sessions c.loop-i.i (omega arith) c.loop-i.invariant
