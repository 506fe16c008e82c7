use Rattle.std.proofs.Common.{eqb, ◌∙◌}
use Rattle.std.proofs.lemmas.Bool.{ne_eqb, or_from}
use Rattle.std.proofs.lemmas.List.Folds.{list_any_more}
use Rattle.node_quotient.specs.Alike.{class_in}
use Rattle.node_quotient.proofs.alike.has_class.Goals as goal

pub loop-n-preserved : goal.loop-n-preserved
loop-n-preserved c =
    list_any_more (λ n. eqb (class_in c.args.least.now n) c.args.class) c.args.list.now c.loop-n.n-index 0 c.loop-n-test.true
    ∙ or_from _ _ c.loop-n.invariant (ne_eqb _ _ c.if-least-n.false)
