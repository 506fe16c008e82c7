-- Offers that are taken, as far as the loop has come.
use Rattle.std.proofs.Common.{◌≡◌, ◌↔◌, ℕ, ◌+◌, ◌<◌, ◌≤◌, true, false, cond, List, [], ◌∷◌, ◌++◌, length, set, eqb, get_or-set_same, get_or-set_other, length-set}
use Rattle.std.proofs.Common.{length-append, Option, Some, None, refl, sym, ap, ◌∙◌, subst, inl, inr, arith}
use Rattle.std.specs.Prelude.{◌||◌, is_some}
use Rattle.std.specs.List.{count_by}
use Rattle.std.proofs.Math.Bool.{or-false}
use Rattle.std.proofs.lemmas.Bool.{cases_eq, cases_lt, eqb-true, eq-eqb, or_cases, or_left, or_right}
use Rattle.std.proofs.lemmas.List.Folds.{list_any-append}
use Rattle.std.proofs.lemmas.List.Sums.{sum_by-set}
use Rattle.graph_base.specs.Graphs.{PlainGraph}
use Rattle.graph_base.specs.Runs.{place_of}
use Rattle.reach_prune.specs.Searches.{is_among}
use Rattle.settled_graph.specs.declared.offers.Offer.{Offer}
use Rattle.settled_graph.specs.declared.settled.Settled.{Settled}
use Rattle.settled_graph.specs.Best.{entry_at}
use Rattle.settled_graph.specs.Rounds.{AreFit, IsRound, after_offer, taken}
use Rattle.settled_graph.proofs.Tables.{entry_past, entry_within}

-- what locations before a place have after the round, and the others before it
pub record IsSoFar (g : PlainGraph) (offers : List (Option Offer)) (routes : List (Option Settled)) (wanted : List (Option ℕ)) (place : ℕ)
    (next : List (Option Settled)) (left : List (Option ℕ)) (front : List ℕ) : Type 0 where
  pub sizes : length next ≡ 768
  pub room : length left ≡ 768
  pub done : (l : ℕ) → l < place → entry_at next l ≡ after_offer g routes l (entry_at offers l)
  pub rest : (l : ℕ) → place ≤ l → entry_at next l ≡ entry_at routes l
  pub cleared : (l : ℕ) → l < place → entry_at left l ≡ cond (is_some (entry_at offers l)) None (entry_at wanted l)
  pub waiting : (l : ℕ) → place ≤ l → entry_at left l ≡ entry_at wanted l
  pub later : (n : ℕ) → (is_among front n ≡ true) ↔ ((l : ℕ) × (o : Offer) × (l < place) × (entry_at offers l ≡ Some o) × (o.to ≡ n))
  pub fewer : count_by is_some left + length front ≡ count_by is_some wanted

-- the test passes one item less where an item that passes is replaced by one that doesn't
count_taken : {A : Type 0} (table : List (Option A)) (i : ℕ) (x : A) → entry_at table i ≡ Some x → count_by is_some (set table i None) + 1 ≡ count_by is_some table
count_taken {A} table i x is =
    let sums = sum_by-set (λ (o : Option A). cond (is_some o) 1 0) table i None None (entry_within table i x is) in
    let one : ◌≡◌ {A = ℕ} (cond (is_some (entry_at table i)) 1 0) 1 = ap (λ (o : Option A). cond (is_some o) 1 0) is in
    omega (arith, sums, one)

module _ (g : PlainGraph) (offers : List (Option Offer)) (routes : List (Option Settled)) (wanted : List (Option ℕ)) (count : length offers ≡ 768) (fit : AreFit g wanted offers) where
  abbrev SoFar : ℕ → List (Option Settled) → List (Option ℕ) → List ℕ → Type 0
  SoFar = IsSoFar g offers routes wanted

  pub so_far_first : length routes ≡ 768 → length wanted ≡ 768 → SoFar 0 routes wanted []
  so_far_first sizes room = record {
    sizes = sizes;
    room = room;
    done = λ l less. absurd (omega (arith, less));
    rest = λ l low. refl;
    cleared = λ l less. absurd (omega (arith, less));
    waiting = λ l low. refl;
    later = λ n. (λ h. absurd (cc), λ h. absurd (omega (arith, h.2)));
    fewer = omega arith;
  }

  module _ (i : ℕ) (next : List (Option Settled)) (left : List (Option ℕ)) (front : List ℕ) (before : SoFar i next left front) where
    -- a location without an offer stays as it is
    pub so_far_none : entry_at offers i ≡ None → SoFar (i + 1) next left front
    so_far_none none = record {
      sizes = before.sizes;
      room = before.room;
      done = λ l less. elim (cases_lt l i) [
        | inl low ↦ before.done l low
        | inr here ↦ (let same : l ≡ i = omega (arith, less, here) in
            before.rest l (omega (arith, here)) ∙ sym (ap (λ o. after_offer g routes l o) (ap (entry_at offers) same ∙ none)))
      ];
      rest = λ l low. before.rest l (omega (arith, low));
      cleared = λ l less. elim (cases_lt l i) [
        | inl low ↦ before.cleared l low
        | inr here ↦ (let same : l ≡ i = omega (arith, less, here) in
            before.waiting l (omega (arith, here)) ∙ sym (ap (λ o. cond (is_some o) None (entry_at wanted l)) (ap (entry_at offers) same ∙ none)))
      ];
      waiting = λ l low. before.waiting l (omega (arith, low));
      later = λ n. (
        λ h. let f = (before.later n).0 h in (f.0, f.1, omega (arith, f.2), f.3, f.4),
        λ h. elim (cases_lt h.0 i) [
          | inl low ↦ (before.later n).1 (h.0, h.1, low, h.3, h.4)
          | inr here ↦ (let same : h.0 ≡ i = omega (arith, h.2, here) in let clash : None ≡ Some h.1 = sym none ∙ ap (entry_at offers) (sym same) ∙ h.3 in absurd (cc))
        ],
      );
      fewer = before.fewer;
    }

    -- the route that is taken is that of the giver before the round, which has no offer
    pub taken_same : (o : Offer) → entry_at offers i ≡ Some o → taken g next i o ≡ taken g routes i o
    taken_same o is = ap (option_with o) giver
      where
        option_with : Offer → Option Settled → Option Settled
        option_with o None = None
        option_with o (Some x) = Some (record { path = i ∷ x.path; node = o.to })

        giver : entry_at next (place_of g o.from) ≡ entry_at routes (place_of g o.from)
        giver = elim (cases_lt (place_of g o.from) i) [
          | inl low ↦ before.done (place_of g o.from) low ∙ ap (λ x. after_offer g routes (place_of g o.from) x) (fit i o is).apart
          | inr high ↦ before.rest (place_of g o.from) (omega (arith, high))
        ]

    -- a location takes its offer
    pub so_far_some : (o : Offer) → i < 768 → entry_at offers i ≡ Some o → SoFar (i + 1) (set next i (taken g next i o)) (set left i None) (front ++ o.to ∷ [])
    so_far_some o low is = record {
      sizes = length-set _ _ _ ∙ before.sizes;
      room = length-set _ _ _ ∙ before.room;
      done = λ l less. elim (cases_eq l i) [
        | inl here ↦
            ap (entry_at (set next i (taken g next i o))) here
            ∙ get_or-set_same next i (taken g next i o) None (omega (arith, low, before.sizes))
            ∙ taken_same o is
            ∙ sym (ap (λ k. after_offer g routes k (entry_at offers k)) here ∙ ap (after_offer g routes i) is)
        | inr there ↦ get_or-set_other next i l (taken g next i o) None there ∙ before.done l (omega (arith, less, there))
      ];
      rest = λ l past. get_or-set_other next i l (taken g next i o) None (λ e. absurd (omega (arith, past, e))) ∙ before.rest l (omega (arith, past));
      cleared = λ l less. elim (cases_eq l i) [
        | inl here ↦
            ap (entry_at (set left i None)) here
            ∙ get_or-set_same left i None None (omega (arith, low, before.room))
            ∙ sym (ap (λ k. cond (is_some (entry_at offers k)) None (entry_at wanted k)) here ∙ ap (λ x. cond (is_some x) None (entry_at wanted i)) is)
        | inr there ↦ get_or-set_other left i l None None there ∙ before.cleared l (omega (arith, less, there))
      ];
      waiting = λ l past. get_or-set_other left i l None None (λ e. absurd (omega (arith, past, e))) ∙ before.waiting l (omega (arith, past));
      later = λ n. (
        λ h. elim (or_cases (is_among front n) (eqb o.to n) (sym (among n) ∙ h)) [
          | inl old ↦ (let f = (before.later n).0 old in (f.0, f.1, omega (arith, f.2), f.3, f.4))
          | inr new ↦ (i, o, omega arith, is, eqb-true o.to n new)
        ],
        λ h. among n ∙ elim (cases_lt h.0 i) [
          | inl less ↦ or_left (is_among front n) (eqb o.to n) ((before.later n).1 (h.0, h.1, less, h.3, h.4))
          | inr here ↦ (
              let same : h.0 ≡ i = omega (arith, h.2, here) in
              let both : Some o ≡ Some h.1 = sym is ∙ ap (entry_at offers) (sym same) ∙ h.3 in
              let one : o ≡ h.1 = cc in
              or_right (is_among front n) (eqb o.to n) (eq-eqb o.to n (ap (λ (x : Offer). x.to) one ∙ h.4)))
        ],
      );
      fewer = left_fewer (entry_at left i) refl;
    }
      where
        among : (n : ℕ) → is_among (front ++ o.to ∷ []) n ≡ (is_among front n || eqb o.to n)
        among n = list_any-append (λ x. eqb x n) front (o.to ∷ []) ∙ ap (λ b. is_among front n || b) (or-false (eqb o.to n))

        left_fewer : (x : Option ℕ) → entry_at left i ≡ x → count_by is_some (set left i None) + length (front ++ o.to ∷ []) ≡ count_by is_some wanted
        left_fewer (Some x) e = omega (arith, count_taken left i x e, length-append front (o.to ∷ []), before.fewer)
        left_fewer None e =
            let none : is_some (entry_at wanted i) ≡ false = ap is_some (sym (before.waiting i (omega arith)) ∙ e) in
            let some = (fit i o is).waits in
            absurd (cc)

    -- what a turn of the loop makes of the tables
    pub so_far_taken : (o : Offer) (current : List (Option Settled)) (at : ℕ) (route : Option Settled) (next' : List (Option Settled)) (left' : List (Option ℕ)) (front' : List ℕ)
        → i < 768 → entry_at offers i ≡ Some o → at ≡ i → current ≡ next → route ≡ taken g current at o
        → next' ≡ set next i route → left' ≡ set left i None → front' ≡ front ++ o.to ∷ [] → SoFar (i + 1) next' left' front'
    so_far_taken o current at route next' left' front' low is place read took next_is left_is front_is =
        let route_is : route ≡ taken g next i o = took ∙ ap (λ xs. taken g xs at o) read ∙ ap (λ l. taken g next l o) place in
        let next_as : next' ≡ set next i (taken g next i o) = next_is ∙ ap (set next i) route_is in
        subst (λ xs. SoFar (i + 1) xs left' front') (sym next_as)
        (subst (λ xs. SoFar (i + 1) (set next i (taken g next i o)) xs front') (sym left_is)
        (subst (SoFar (i + 1) (set next i (taken g next i o)) (set left i None)) (sym front_is) (so_far_some o low is)))

  -- after all locations the round is done
  pub so_far_all : (i : ℕ) (next : List (Option Settled)) (left : List (Option ℕ)) (front : List ℕ) → 768 ≤ i → length routes ≡ 768
      → length wanted ≡ 768 → SoFar i next left front → IsRound g offers routes next wanted left front
  so_far_all i next left front past sizes room all = record {
    held = λ l. elim (cases_lt l i) [
      | inl low ↦ all.done l low
      | inr high ↦ all.rest l (omega (arith, high)) ∙ sym (ap (λ o. after_offer g routes l o) (entry_past offers l (omega (arith, high, past, count))))
    ];
    waits = λ l. elim (cases_lt l i) [
      | inl low ↦ all.cleared l low
      | inr high ↦ all.waiting l (omega (arith, high)) ∙ sym (ap (λ o. cond (is_some o) None (entry_at wanted l)) (entry_past offers l (omega (arith, high, past, count))))
    ];
    later = λ n. (
      λ h. let f = (all.later n).0 h in (f.0, f.1, f.3, f.4),
      λ h. (all.later n).1 (h.0, h.1, (let low = entry_within offers h.0 h.1 h.2 in omega (arith, low, count, past)), h.2, h.3),
    );
    fewer = all.fewer;
  }
