use Rattle.std.proofs.Common.{not, sym, ap, ◌∙◌}
use Rattle.std.proofs.lemmas.Bool.{or_from}
use Rattle.std.proofs.lemmas.List.Folds.{list_any_more}
use Rattle.node_quotient.specs.Alike.{class_in, has_class}
use Rattle.node_quotient.proofs.alike.lacks_class.Goals as goal

pub loop-n-preserved : goal.loop-n-preserved
loop-n-preserved c =
    let least = c.args.least.now in
    list_any_more (λ n. not (has_class least c.args.other.now (class_in least n))) c.args.list.now c.loop-n.n-index 0 c.loop-n-test.true
    ∙ or_from _ _ c.loop-n.invariant (ap not (sym c.has_class.ensures ∙ c.if-not-has_class.false))
