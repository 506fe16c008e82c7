use Rattle.std.proofs.Common.{arith}
use Rattle.evidence_reuse.proofs.Rising.{raised_apart}
use Rattle.evidence_reuse.proofs.alike.are_raised.Goals as goal

pub returns-then-numbers-others : goal.returns-then-numbers-others
returns-then-numbers-others c = raised_apart c.args.by c.args.numbers.now c.args.others.now (λ e. omega (arith, e, c.if-numbers-others.true))
