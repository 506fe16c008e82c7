use Rattle.std.proofs.Common.{◌||◌, ◌&&◌, ℕ, [], eqb, ap, sym, ◌∙◌, arith, get_or, length, take}
use Rattle.std.specs.List.{list_any}
use Rattle.std.proofs.lemmas.List.{length-replicate, take_all}
use Rattle.std.proofs.lemmas.List.Folds.{list_any_more}
use Rattle.list_law.proofs.Items.{get_or-replicate_same}
use Rattle.preference_check.specs.Offers.{is_good, is_offered, offer_by_step}
use Rattle.graph_base.proofs.StartsAndSteps.{step_ends}
use Rattle.preference_check.proofs.offers.offers_by_steps.Goals as goal

pub offer_by_step-offer-requires-clause-node : goal.offer_by_step-offer-requires-clause-node
offer_by_step-offer-requires-clause-node c =
    (step_ends c.args.graph.now c.steps-step-items.result.now c.loop-step.step-index c.steps-step-items.ensures.rules c.steps-step-items.ensures.steps c.loop-step-test.true).1

pub put-requires : goal.put-requires
put-requires c =
    let ends = step_ends c.args.graph.now c.steps-step-items.result.now c.loop-step.step-index c.steps-step-items.ensures.rules c.steps-step-items.ensures.steps c.loop-step-test.true in
    omega (arith, ends.0, c.loop-step.invariant.size)

pub loop-step-init : goal.loop-step-init
loop-step-init c =
    let size = length c.nodes.result.now in
    record {
      size = ap length c.in_ok-offers.ensures ∙ length-replicate size [] ∙ ap length c.nodes.ensures.nodes;
      offers = λ n at cost.
          ap (λ l. is_offered (get_or l n []) at cost) c.in_ok-offers.ensures ∙ ap (λ l. is_offered l at cost) (get_or-replicate_same size n []);
    }

pub loop-step-preserved : goal.loop-step-preserved
loop-step-preserved c = record {
  size = c.put.ensures.size ∙ c.loop-step.invariant.size;
  offers = λ n at cost.
      let steps = c.steps-step-items.result.now in
      let i = c.loop-step.step-index in
      let goes = λ (s : ℕ × ℕ). eqb s.0 n && is_good (offer_by_step c.args.graph.now c.args.numbers.now c.args.towards s.1) at cost in
      let from = (get_or steps i (0, 0)).0 in
      c.in_ok-put.ensures.offers n at cost
      ∙ ap (λ b. b || (eqb from n && is_good c.offer_by_step-offer.result at cost)) (c.loop-step.invariant.offers n at cost)
      ∙ ap (λ o. list_any goes (take i steps) || (eqb from n && is_good o at cost)) c.offer_by_step-offer.ensures
      ∙ sym (list_any_more goes steps i (0, 0) c.loop-step-test.true);
}

pub returns-clause-offers : goal.returns-clause-offers
returns-clause-offers c = λ n at cost.
    let goes = λ (s : ℕ × ℕ). eqb s.0 n && is_good (offer_by_step c.args.graph.now c.args.numbers.now c.args.towards s.1) at cost in
    c.loop-step.invariant.offers n at cost
    ∙ ap (list_any goes) (take_all c.loop-step.step-index c.steps-step-items.result.now c.loop-step-test.false ∙ c.steps-step-items.ensures.steps)
