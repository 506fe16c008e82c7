use Rattle.std.proofs.Common.{arith}
use Rattle.stage_check.proofs.Ends.{neighbours_apart}
use Rattle.stage_check.proofs.unlike.same_neighbours.Goals as goal

pub returns-then-a-b : goal.returns-then-a-b
returns-then-a-b c = neighbours_apart c.args.a.now c.args.b.now (λ e. omega (arith, e, c.if-a-b.true))
