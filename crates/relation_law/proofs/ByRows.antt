-- Where the relation is total, what stands lower than a node is told by the row of the node.
use Rattle.std.proofs.Common.{◌≡◌, ℕ, zero, suc, ◌+◌, ◌<◌, Bool, true, cond, not, ◌&&◌, inl, inr, arith, refl, sym, ap, ◌∙◌}
use Rattle.std.proofs.lemmas.Bool.{cases_Bool, and_left, and_right, both_ways, eqb-true, eq-eqb, false_from_ne_true}
use Rattle.relation_law.specs.Numbers.{count_below, is_first, is_lower, number_of}
use Rattle.relation_law.specs.Relations.{IsGreatest, IsTotal, Pair}
use Rattle.relation_law.specs.Rounds.{same_place}
use Rattle.relation_law.specs.Views.{View}

pub count_alike : (n : ℕ) (p q : ℕ → Bool) → ((k : ℕ) → k < n → p k ≡ q k) → count_below n p ≡ count_below n q
count_alike zero p q h = refl
count_alike (suc n) p q h = ap (λ b. cond b 1 0 + count_below n p) (h n (omega arith)) ∙ ap (λ z. cond (q n) 1 0 + z) (count_alike n p q (λ k lt. h k (omega arith)))

-- what stands strictly lower than m are the nodes at its location that aren't above it
lower_by_row : (v : View) (r : ℕ → ℕ → Bool) → IsGreatest v r → IsTotal v r → (p m : ℕ) → p < v.size → m < v.size → is_lower r p m ≡ (same_place v p m && not (r p m))
lower_by_row v r g total p m lp lm = elim (cases_Bool (same_place v p m)) [
  | inl e ↦ (
      let pair : Pair v p m = record { left = lp; right = lm; place = eqb-true _ _ e } in
      elim (cases_Bool (r p m)) [
        | inl up ↦ and_right (r m p) (not (r p m)) (ap not up) ∙ sym (and_right (same_place v p m) (not (r p m)) (ap not up))
        | inr down ↦ (let back : r m p ≡ true = elim (total p m pair) [ inl f ↦ absurd (both_ways _ down f) | inr f ↦ f ] in ap (λ z. z && not (r p m)) (back ∙ sym e))
      ])
  | inr e ↦ and_left (r m p) (not (r p m)) (false_from_ne_true _ (λ f. both_ways _ e (eq-eqb _ _ (sym (g.closed m p f).0.place)))) ∙ sym (and_left (same_place v p m) (not (r p m)) e)
]

pub number_by_row : (v : View) (r : ℕ → ℕ → Bool) → IsGreatest v r → IsTotal v r → (m : ℕ) → m < v.size
    → number_of v.size r m ≡ 100 + count_below v.size (λ p. is_first r p && (same_place v p m && not (r p m)))
number_by_row v r g total m lm =
    ap (λ z. 100 + z) (count_alike v.size (λ p. is_first r p && is_lower r p m) (λ p. is_first r p && (same_place v p m && not (r p m)))
    (λ p lp. ap (λ z. is_first r p && z) (lower_by_row v r g total p m lp lm)))
