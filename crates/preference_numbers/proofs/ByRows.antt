-- Numbers that are counted in rows.
use Rattle.std.proofs.Common.{◌≡◌, ℕ, zero, suc, ◌+◌, ◌*◌, ◌<◌, ◌≤◌, Bool, true, false, cond, not, ◌&&◌, ◌||◌, ltb, eqb, length, inl, inr, arith, refl, sym, ap, ◌∙◌}
use Rattle.std.specs.List.{count_by, range_with_len}
use Rattle.std.proofs.lemmas.Bool.{cases_Bool, and_left, and_right, eqb-true, le-ltb, lt-ltb}
use Rattle.std.proofs.Math.Bool.{and-true, or-false}
use Rattle.bit_rows.specs.Tables.{PlainRows, has_at}
use Rattle.list_law.proofs.Counts.{count_first, count_split, count_to}
use Rattle.graph_base.specs.Graphs.{PlainGraph}
use Rattle.graph_base.specs.Runs.{place_of}
use Rattle.relation_law.specs.Numbers.{count_below, is_first, number_of}
use Rattle.relation_law.specs.Views.{view_of}
use Rattle.relation_law.proofs.ByRows.{count_alike, number_by_row}
use Rattle.relation_law.proofs.Rounds.{pair_to}
use Rattle.state_simulation.specs.Held.{HasEach, IsRelationOf, PlainRelation, are_together, has}
use Rattle.state_simulation.proofs.Holding.{together, total_where_each}
use Rattle.list_law.proofs.Numbers.{next_below}
use Rattle.state_simulation.specs.Looked.{AreLocated}
use Rattle.preference_numbers.specs.Inferred.{AreFirsts}

-- the tests of the first numbers, counted from either end
count_range : (p : ℕ → Bool) (n : ℕ) → count_by p (range_with_len 0 n) ≡ count_below n p
count_range p zero = refl
count_range p (suc n) =
    let longer : suc n ≡ n + 1 = omega arith in
    let at : 0 + n ≡ n = omega arith in
    let one : ◌≡◌ {A = ℕ} (count_by p (range_with_len (0 + n) 1)) (cond (p n) 1 0 + 0) = ap (λ k. count_by p (range_with_len k 1)) at ∙ count_first p n 0 in
    ap (λ k. count_by p (range_with_len 0 k)) longer ∙ count_split p 0 n 1 ∙ omega (arith, one, count_range p n)

-- one node more is the first of its class, or isn't
pub first_more : (first : ℕ → Bool) (q p : ℕ) (old new : Bool) → old ≡ (ltb q p && first q) → first p ≡ true → new ≡ (old || eqb q p) → new ≡ (ltb q (p + 1) && first q)
first_more first q p old new before is here =
    here ∙ ap (λ z. z || eqb q p) before ∙ sym (ap (λ z. (ltb q p && first q) || z) (ap (λ z. eqb q p && z) is ∙ and-true (eqb q p))) ∙ next_below q p first

pub other_more : (first : ℕ → Bool) (q p : ℕ) (old : Bool) → old ≡ (ltb q p && first q) → first p ≡ false → old ≡ (ltb q (p + 1) && first q)
other_more first q p old before is =
    before ∙ sym (ap (λ z. (ltb q p && first q) || z) (and_right (eqb q p) (first p) is) ∙ or-false (ltb q p && first q)) ∙ next_below q p first

module _ (g : PlainGraph) (r : PlainRelation) (firsts located : PlainRows) (is : IsRelationOf g r) (each : HasEach r)
    (one : AreFirsts (length g.nodes) r firsts) (places : AreLocated g located) (m : ℕ) (lm : m < length g.nodes) where
  here : (k : ℕ) → k < length g.nodes
      → (has_at firsts 0 k && (has_at located (place_of g m) k && not (has_at r.rows m k)))
      ≡ (is_first (has r) k && (eqb (place_of g k) (place_of g m) && not (has r k m)))
  here k lk =
      let first : has_at firsts 0 k ≡ is_first (has r) k = one.each k ∙ ap (λ z. z && is_first (has r) k) (lt-ltb _ _ lk) in
      let there : has_at located (place_of g m) k ≡ eqb (place_of g k) (place_of g m) = places.nodes (place_of g m) k (places.places m lm)
      ∙ ap (λ z. z && eqb (place_of g k) (place_of g m)) (lt-ltb _ _ lk) in
      ap (λ z. z && (has_at located (place_of g m) k && not (has_at r.rows m k))) first
      ∙ ap (λ z. is_first (has r) k && (z && not (has_at r.rows m k))) there
      ∙ ap (λ z. is_first (has r) k && z) (elim (cases_Bool (eqb (place_of g k) (place_of g m))) [
        | inl e ↦ (
            let pair : are_together r k m ≡ true = together g r is.places k m ∙ pair_to (view_of g r.claimed) k m (record { left = lk; right = lm; place = eqb-true _ _ e }) in
            ap (λ z. eqb (place_of g k) (place_of g m) && not z) (sym (ap (λ z. z && has_at r.rows m k) pair)))
        | inr e ↦ and_left _ _ e ∙ sym (and_left _ _ e)
      ])

  pub number_in_rows : 100
      + count_by (λ k. has_at firsts 0 k && (has_at located (place_of g m) k && not (has_at r.rows m k))) (range_with_len 0 (length g.nodes))
      ≡ number_of (length g.nodes) (has r) m
  number_in_rows =
      ap (λ z. 100 + z) (count_range (λ k. has_at firsts 0 k && (has_at located (place_of g m) k && not (has_at r.rows m k))) (length g.nodes)
      ∙ count_alike (length g.nodes) (λ k. has_at firsts 0 k && (has_at located (place_of g m) k && not (has_at r.rows m k)))
      (λ k. is_first (has r) k && (eqb (place_of g k) (place_of g m) && not (has r k m))) here)
      ∙ sym (number_by_row (view_of g r.claimed) (has r) is.greatest (total_where_each g r is each) m lm)

  -- the rows end with the word of the last node
  pub number_in_words : (words : ℕ) → length g.nodes ≤ 64 * words → count_by (λ k. has_at firsts 0 k && (has_at located (place_of g m) k && not (has_at r.rows m k))) (range_with_len 0 (64 * words))
      ≡ count_by (λ k. has_at firsts 0 k && (has_at located (place_of g m) k && not (has_at r.rows m k))) (range_with_len 0 (length g.nodes))
  number_in_words words room = count_to (λ k. has_at firsts 0 k && (has_at located (place_of g m) k && not (has_at r.rows m k))) (length g.nodes) (64 * words) room
      (λ k past. and_left _ _ (one.each k ∙ and_left _ _ (le-ltb _ _ past)))
