use Rattle.std.proofs.Common.{◌≡◌, ◌||◌, ℕ, true, arith, sym, ap, subst, ◌∙◌, inl, inr}
use Rattle.std.proofs.lemmas.Bool.{both_ways, cases_lt, not-true, or_cases}
use Rattle.state_simulation.specs.Held.{are_together, has}
use Rattle.state_simulation.proofs.table.Relation.has_each_of.Goals as goal

pub loop-n-preserved : goal.loop-n-preserved
loop-n-preserved c = λ n lt both.
    let r = c.args.self.now in
    let m : ℕ = c.args.m in
    let i : ℕ = c.loop-n.n in
    elim (cases_lt n i) [
      | inl before ↦ c.loop-n.invariant n before both
      | inr past ↦ (
          let same : i ≡ n = omega (arith, lt, past) in
          let is : are_together r m i ≡ true = ap (are_together r m) same ∙ both in
          subst (λ x. (has r m x || has r x m) ≡ true) same
          (elim (or_cases _ _ (sym c.has_one_of.ensures ∙ c.if-not-has_one_of.false)) [
            | inl apart ↦ absurd (both_ways _ (not-true _ apart) is)
            | inr one ↦ one
          ]))
    ]
