use Rattle.std.proofs.Common.{◌≡◌, ℕ, true, false, ltb, arith, sym, ap, subst, ◌∙◌, inl, inr}
use Rattle.std.proofs.lemmas.Bool.{both_ways, cases_Bool, ltb-false, ltb-true}
use Rattle.graph_base.specs.Runs.{place_of}
use Rattle.state_simulation.proofs.Staging.{bound_each}
use Rattle.state_simulation.specs.Stages.{asks_later, has_either}
use Rattle.state_simulation.specs.Targets.{is_touched}
use Rattle.state_simulation.proofs.rounds.Rounds.is_open.Goals as goal
use Rattle.state_simulation.proofs.rounds.Rounds.is_open.Goals.{else-index-via-then-index+else-has_open, else-index-via-else-index}

pub returns-clause-bound : goal.returns-clause-bound
returns-clause-bound c = λ e.
    let g = c.args.maps.now.graph.now in
    let s = c.args.self.now in
    bound_each g s.left s.touched.items (λ n m ln lm. c.loop-n.invariant n m (omega (arith, ln, c.loop-n-test.false, c.len-n-end.ensures, c.requires.touched)) lm)

pub loop-n-preserved : goal.loop-n-preserved
loop-n-preserved c = λ n m ln lm touched place first.
    let g = c.args.maps.now.graph.now in
    let left = c.args.self.now.left in
    let items = c.args.self.now.touched.items in
    let k : ℕ = c.loop-n.n in
    let asked : is_touched items k ≡ true → place_of g m ≡ place_of g k → asks_later items m k ≡ false → has_either left m k ≡ true = λ is at none. elim c.else-index.branch [
      | else-index-via-then-index+else-has_open w ↦ w.has_open.ensures.bound w.if-has_open.false m lm at (ap (λ l. asks_later l m k) w.deref.ensures.value ∙ none)
      | else-index-via-else-index w ↦ absurd (both_ways _ (sym (rw w.if-index.false at c.index.ensures)) is)
    ] in
    elim (cases_Bool (ltb n k)) [
      | inl before ↦ c.loop-n.invariant n m (ltb-true n k before) lm touched place first
      | inr other ↦ (
          let same : k ≡ n = omega (arith, ln, ltb-false n k other) in
          subst (λ x. has_either left m x ≡ true) same
          (asked (ap (is_touched items) same ∙ touched) (place ∙ ap (place_of g) (sym same)) (ap (asks_later items m) same ∙ first)))
    ]
