use Rattle.std.proofs.Common.{◌++◌, ◌∷◌, ◌<◌, ℕ, List, [], ap, sym, subst, ◌∙◌, get_or, length, map}
use Rattle.std.specs.Prelude.{filter}
use Rattle.std.proofs.lemmas.List.{take_all}
use Rattle.graph_base.specs.Graphs.{PlainGraph}
use Rattle.graph_base.specs.Runs.{place_of}
use Rattle.outcome_claims.specs.Offers.{is_told}
use Rattle.graph_base.proofs.StartsAndSteps.{step_ends}
use Rattle.outcome_claims.proofs.Marking.{passed_step, picked_step}
use Rattle.outcome_claims.proofs.offers.case_pairs.Goals as goal
use Rattle.outcome_claims.proofs.offers.case_pairs.Goals.{then-is_told+in_ok-push, else-is_told}

pub is_told-requires-clause-from : goal.is_told-requires-clause-from
is_told-requires-clause-from c =
    let step = get_or c.steps-step-items.result.now c.loop-step.step-index (0, 0) in
    subst (λ (g : PlainGraph). step.0 < length g.nodes) c.graph-graph.ensures.graph
    (step_ends c.graph-graph.result.now c.steps-step-items.result.now c.loop-step.step-index c.steps-step-items.ensures.rules c.steps-step-items.ensures.steps c.loop-step-test.true).0

pub is_told-requires-clause-to : goal.is_told-requires-clause-to
is_told-requires-clause-to c =
    let step = get_or c.steps-step-items.result.now c.loop-step.step-index (0, 0) in
    subst (λ (g : PlainGraph). step.1 < length g.nodes) c.graph-graph.ensures.graph
    (step_ends c.graph-graph.result.now c.steps-step-items.result.now c.loop-step.step-index c.steps-step-items.ensures.rules c.steps-step-items.ensures.steps c.loop-step-test.true).1

pub ends-requires-clause-from : goal.ends-requires-clause-from
ends-requires-clause-from c =
    (step_ends c.graph-graph.result.now c.steps-step-items.result.now c.loop-step.step-index c.steps-step-items.ensures.rules c.steps-step-items.ensures.steps c.loop-step-test.true).0

pub ends-requires-clause-to : goal.ends-requires-clause-to
ends-requires-clause-to c =
    (step_ends c.graph-graph.result.now c.steps-step-items.result.now c.loop-step.step-index c.steps-step-items.ensures.rules c.steps-step-items.ensures.steps c.loop-step-test.true).1

pub loop-step-preserved : goal.loop-step-preserved
loop-step-preserved c =
    let case = c.args.case.now in
    let steps = c.steps-step-items.result.now in
    let i = c.loop-step.step-index in
    let step = get_or steps i (0, 0) in
    let ends : ℕ × ℕ → ℕ × ℕ = λ s. (place_of case.graph s.0, place_of case.graph s.1) in
    let at : PlainGraph → ℕ × ℕ = λ g. (place_of g step.0, place_of g step.1) in
    let told = is_told case c.args.outcome.now.routes in
    elim c.if-is_told.branch [
      | then-is_told+in_ok-push w ↦
          ap (λ v. v.items) w.pairs-is
          ∙ w.in_ok-push.ensures.items
          ∙ ap (λ e. c.loop-step.pairs.items ++ e ∷ []) (w.ends.ensures ∙ ap at c.graph-graph.ensures.graph)
          ∙ ap (λ xs. xs ++ ends step ∷ []) c.loop-step.invariant
          ∙ sym (picked_step ends told steps i (0, 0) c.loop-step-test.true (sym c.is_told.ensures ∙ w.if-is_told.true))
      | else-is_told w ↦
          ap (λ v. v.items) w.pairs-is ∙ c.loop-step.invariant ∙ sym (passed_step ends told steps i (0, 0) c.loop-step-test.true (sym c.is_told.ensures ∙ w.if-is_told.false))
    ]

pub returns : goal.returns
returns c =
    let case = c.args.case.now in
    let ends : ℕ × ℕ → ℕ × ℕ = λ s. (place_of case.graph s.0, place_of case.graph s.1) in
    c.loop-step.invariant
    ∙ ap (λ (xs : List (ℕ × ℕ)). map ends (filter (is_told case c.args.outcome.now.routes) xs))
    (take_all c.loop-step.step-index c.steps-step-items.result.now c.loop-step-test.false
    ∙ c.steps-step-items.ensures.steps ∙ ap (λ (g : PlainGraph). g.steps) c.graph-graph.ensures.graph)
