use Rattle.std.proofs.Common.{ℕ, Option, ◌∷◌, [], ◌||◌, false, eqb, take, arith, sym, ap, ◌∙◌}
use Rattle.std.proofs.Math.Bool.{or-false}
use Rattle.std.proofs.lemmas.List.{take_all}
use Rattle.std.proofs.lemmas.List.Folds.{list_any-append, list_any_more}
use Rattle.reach_prune.specs.Searches.{is_among}
use Rattle.state_simulation.specs.Looked.{is_keyed}
use Rattle.state_simulation.proofs.ordering.nodes_of.Goals as goal

pub loop-node-preserved : goal.loop-node-preserved
loop-node-preserved c = λ n.
    let keyed = c.args.keyed.now in
    let i = c.loop-node.node-index in
    let item : ℕ × Option ℕ × ℕ = c.loop-node-item.result in
    ap (λ l. is_among l n) c.in_ok-push.ensures.items ∙ list_any-append (λ x. eqb x n) c.loop-node.order.items (item.2 ∷ [])
    ∙ ap (λ z. z || (eqb item.2 n || false)) (c.loop-node.invariant n) ∙ ap (λ z. is_keyed (take i keyed) n || z) (or-false (eqb item.2 n))
    ∙ ap (λ (x : ℕ × Option ℕ × ℕ). is_keyed (take i keyed) n || eqb x.2 n) c.loop-node-item.is
    ∙ sym (list_any_more (λ (x : ℕ × Option ℕ × ℕ). eqb x.2 n) keyed i item c.loop-node-test.true)

pub returns : goal.returns
returns c = λ n. c.loop-node.invariant n ∙ ap (λ l. is_keyed l n) (take_all c.loop-node.node-index c.args.keyed.now (omega (arith, c.loop-node-test.false)))
