use Rattle.std.proofs.Common.{sym, ◌∙◌}
use Rattle.node_quotient.specs.Alike.{are_alike}
use Rattle.node_quotient.proofs.Finding.{find_next}
use Rattle.node_quotient.proofs.alike.first_alike.Goals as goal

pub loop-m-preserved : goal.loop-m-preserved
loop-m-preserved c =
    c.loop-m.invariant
    ∙ find_next (λ m. are_alike c.args.lists.now c.args.least.now m c.args.node) c.args.nodes.now c.loop-m.m-index 0 c.loop-m-test.true
    (sym c.is_alike.ensures ∙ c.if-is_alike.false)
