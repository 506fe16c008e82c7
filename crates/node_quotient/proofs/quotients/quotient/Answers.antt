use Rattle.std.proofs.Common.{subst, sym}
use Rattle.node_quotient.specs.Alike.{AreAlone}
use Rattle.node_quotient.specs.Quotient.{IsQuotient}
use Rattle.node_quotient.proofs.Alone.{alone_is_quotient}
use Rattle.node_quotient.proofs.quotients.quotient.Goals as goal

pub returns-then-is_each_alone : goal.returns-then-is_each_alone
returns-then-is_each_alone c =
    subst (IsQuotient c.args.graph.now) (sym c.in_ok-same.ensures)
    (alone_is_quotient c.args.graph.now c.in_ok-first.first.items c.in_ok-first.ensures.first
    (subst AreAlone c.deref.ensures.value (c.is_each_alone.ensures.0 c.if-is_each_alone.true)))
