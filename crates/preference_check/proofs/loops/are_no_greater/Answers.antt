use Rattle.std.proofs.Common.{get_or, eqb, ap, sym, subst, ◌∙◌, refl, take}
use Rattle.std.proofs.lemmas.Bool.{eq-eqb, eqb-true, false≢true}
use Rattle.std.proofs.lemmas.List.{take_all}
use Rattle.std.proofs.lemmas.List.Folds.{list_any_at, list_any_more}
use Rattle.reach_prune.specs.Searches.{is_among}
use Rattle.preference_check.specs.Floods.{IsNoGreater}
use Rattle.preference_check.proofs.RowLemmas.{one_more}
use Rattle.preference_check.proofs.loops.are_no_greater.Goals as goal

pub loop-node-preserved : goal.loop-node-preserved
loop-node-preserved c = λ t among.
    let nodes = c.args.nodes.now in
    let i = c.loop-node.node-index in
    one_more (is_among (take i nodes) t) (eqb (get_or nodes i 0) t) (c.loop-node.invariant t)
    (λ same. subst (IsNoGreater c.args.graph.now c.args.numbers.now c.args.least.now.least.items) (eqb-true _ _ same) (c.is_no_greater.ensures.0 c.if-not-is_no_greater.false))
    (sym (list_any_more (λ x. eqb x t) nodes i 0 c.loop-node-test.true) ∙ among)

pub returns-then-not-is_no_greater : goal.returns-then-not-is_no_greater
returns-then-not-is_no_greater c =
    let nodes = c.args.nodes.now in
    let i = c.loop-node.node-index in
    let node = get_or nodes i 0 in
    (λ t. absurd (false≢true t), λ all. sym c.if-not-is_no_greater.true ∙ c.is_no_greater.ensures.1 (all node (list_any_at (λ x. eqb x node) nodes i 0 c.loop-node-test.true (eq-eqb node node refl))))

pub returns : goal.returns
returns c = (λ _ t among. c.loop-node.invariant t (ap (λ nodes. is_among nodes t) (take_all c.loop-node.node-index c.args.nodes.now c.loop-node-test.false) ∙ among), λ _. refl)
