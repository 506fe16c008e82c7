use Rattle.std.proofs.Common.{◌++◌, ◌∷◌, ℕ, List, [], ap, sym, ◌∙◌, get_or, map}
use Rattle.std.specs.Prelude.{filter}
use Rattle.std.proofs.lemmas.List.{take_all}
use Rattle.graph_base.specs.Runs.{is_listener, place_of}
use Rattle.graph_base.proofs.StartsAndSteps.{step_ends}
use Rattle.outcome_claims.proofs.Marking.{passed_step, picked_step}
use Rattle.outcome_claims.proofs.marks.heard_pairs.Goals as goal
use Rattle.outcome_claims.proofs.marks.heard_pairs.Goals.{then-hears+in_ok-push, else-hears}

pub hears-requires : goal.hears-requires
hears-requires c =
    (step_ends c.args.graph.now c.steps-step-items.result.now c.loop-step.step-index c.steps-step-items.ensures.rules c.steps-step-items.ensures.steps c.loop-step-test.true).1

pub ends-requires-clause-from : goal.ends-requires-clause-from
ends-requires-clause-from c =
    (step_ends c.args.graph.now c.steps-step-items.result.now c.loop-step.step-index c.steps-step-items.ensures.rules c.steps-step-items.ensures.steps c.loop-step-test.true).0

pub ends-requires-clause-to : goal.ends-requires-clause-to
ends-requires-clause-to c =
    (step_ends c.args.graph.now c.steps-step-items.result.now c.loop-step.step-index c.steps-step-items.ensures.rules c.steps-step-items.ensures.steps c.loop-step-test.true).1

pub loop-step-preserved : goal.loop-step-preserved
loop-step-preserved c =
    let g = c.args.graph.now in
    let steps = c.steps-step-items.result.now in
    let i = c.loop-step.step-index in
    let ends : ℕ × ℕ → ℕ × ℕ = λ s. (place_of g s.0, place_of g s.1) in
    let hears = λ (s : ℕ × ℕ). is_listener g s.1 in
    elim c.if-hears.branch [
      | then-hears+in_ok-push w ↦
          ap (λ v. v.items) w.pairs-is
          ∙ w.in_ok-push.ensures.items
          ∙ ap (λ e. c.loop-step.pairs.items ++ e ∷ []) w.ends.ensures
          ∙ ap (λ xs. xs ++ ends (get_or steps i (0, 0)) ∷ []) c.loop-step.invariant
          ∙ sym (picked_step ends hears steps i (0, 0) c.loop-step-test.true (sym c.hears.ensures ∙ w.if-hears.true))
      | else-hears w ↦
          ap (λ v. v.items) w.pairs-is ∙ c.loop-step.invariant ∙ sym (passed_step ends hears steps i (0, 0) c.loop-step-test.true (sym c.hears.ensures ∙ w.if-hears.false))
    ]

pub returns : goal.returns
returns c =
    let g = c.args.graph.now in
    let ends : ℕ × ℕ → ℕ × ℕ = λ s. (place_of g s.0, place_of g s.1) in
    c.loop-step.invariant
    ∙ ap (λ (xs : List (ℕ × ℕ)). map ends (filter (λ (s : ℕ × ℕ). is_listener g s.1) xs))
    (take_all c.loop-step.step-index c.steps-step-items.result.now c.loop-step-test.false ∙ c.steps-step-items.ensures.steps)
