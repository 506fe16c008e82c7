use Rattle.std.proofs.Common.{arith}
use Rattle.class_lines.proofs.Sorting.{apart}
use Rattle.class_lines.proofs.table.are_same.Goals as goal

pub returns-then-old-new : goal.returns-then-old-new
returns-then-old-new c = apart c.args.old.now c.args.new.now (λ e. omega (arith, e, c.if-old-new.true))
