-- Pairs in order of location, one after another.
use Rattle.std.proofs.Common.{◌≡◌, ◌⊎◌, ℕ, ◌+◌, ◌<◌, ◌≤◌, List, [], ◌∷◌, ◌++◌, length, get_or, Option, Some, None, refl, sym, ap, ◌∙◌, arith, inl, inr}
use Rattle.std.specs.Prelude.{slice_get}
use Rattle.std.proofs.lemmas.Bool.{cases_lt}
use Rattle.std.proofs.lemmas.List.{length-append}
use Rattle.std.proofs.lemmas.Option.{get_or_from_slice_get, slice_get-get_or, slice_get_within}
use Rattle.list_law.proofs.Items.{from_front, slice_get_in_front, slice_get-there}
use Rattle.list_law.proofs.Options.{cases_Option}
use Rattle.pair_graph.specs.declared.pair.NodePair.{NodePair}
use Rattle.pair_graph.specs.Nexts.{AreNexts, AreNextsBelow}
use Rattle.pair_graph.specs.Ways.{IsCut}

abbrev pub at_place : NodePair → ℕ
at_place x = x.place

module _ (next : ℕ → Option NodePair) where
  pub nexts_none : AreNextsBelow next [] 0
  nexts_none = record { sound = λ n x got. absurd cc; all = λ l x lt is. absurd (omega (arith, lt)); order = λ m n x y lt got_m got_n. absurd cc }

  -- where no pair is, there is nothing to do
  pub nexts_over : (pairs : List NodePair) (b c : ℕ) → AreNextsBelow next pairs b → b ≤ c → ((l : ℕ) → b ≤ l → l < c → next l ≡ None) → AreNextsBelow next pairs c
  nexts_over pairs b c are le none = record {
    sound = λ n x got. (let known = are.sound n x got in (known.0, omega (arith, known.1, le)));
    all = λ l x lt is. elim (cases_lt l b) [
      | inl less ↦ are.all l x less is
      | inr ge ↦ absurd (let gone : Some x ≡ None = sym is ∙ none l ge lt in cc)
    ];
    order = are.order;
  }

  pub nexts_skip : (pairs : List NodePair) (p : ℕ) → AreNextsBelow next pairs p → next p ≡ None → AreNextsBelow next pairs (p + 1)
  nexts_skip pairs p are none =
      nexts_over pairs p (p + 1) are (omega arith) (λ l le lt. let here : l ≡ p = omega (arith, le, lt) in ap next here ∙ none)

  pub nexts_push : (pairs : List NodePair) (p : ℕ) (y : NodePair) → AreNextsBelow next pairs p → next p ≡ Some y → y.place ≡ p → AreNextsBelow next (pairs ++ y ∷ []) (p + 1)
  nexts_push pairs p y are is stands = record {
    sound = λ n x got. elim (old_or_new n x got) [
      | inl old ↦ (let known = are.sound n x old in (known.0, omega (arith, known.1)))
      | inr new ↦ (let here : x.place ≡ p = ap at_place new.1 ∙ stands in (ap next here ∙ is ∙ ap Some (sym new.1), omega (arith, here)))
    ];
    all = λ l x lt h. elim (cases_lt l p) [
      | inl less ↦ (let known = are.all l x less h in (known.0, slice_get_in_front pairs (y ∷ []) known.0 x known.1))
      | inr ge ↦ (
          let here : l ≡ p = omega (arith, ge, lt) in
          let both : Some y ≡ Some x = sym is ∙ ap next (sym here) ∙ h in
          (length pairs, slice_get-there pairs y [] ∙ both))
    ];
    order = λ m n x z lt got_m got_n. elim (old_or_new n z got_n) [
      | inl old ↦ (elim (old_or_new m x got_m) [
        | inl was ↦ are.order m n x z lt was old
        | inr new ↦ absurd (omega (arith, lt, new.0, slice_get_within pairs n z old))
      ])
      | inr new ↦ (elim (old_or_new m x got_m) [
        | inl was ↦ (let here : z.place ≡ p = ap at_place new.1 ∙ stands in omega (arith, here, (are.sound m x was).1))
        | inr also ↦ absurd (omega (arith, lt, new.0, also.0))
      ])
    ];
  }
    where
      old_or_new : (n : ℕ) (x : NodePair) → slice_get (pairs ++ y ∷ []) n ≡ Some x → (slice_get pairs n ≡ Some x) ⊎ ((n ≡ length pairs) × (x ≡ y))
      old_or_new n x got = elim (cases_lt n (length pairs)) [
        | inl less ↦ inl (from_front pairs (y ∷ []) n x got less)
        | inr ge ↦ (
            let here : n ≡ length pairs = omega (arith, ge, slice_get_within (pairs ++ y ∷ []) n x got, length-append pairs (y ∷ [])) in
            let item : Some x ≡ Some y = sym got ∙ ap (slice_get (pairs ++ y ∷ [])) here ∙ slice_get-there pairs y [] in
            inr (here, cc))
      ]

  pub nexts_end : (pairs : List NodePair) (b : ℕ) → AreNextsBelow next pairs b → ((l : ℕ) (x : NodePair) → next l ≡ Some x → l < b) → AreNexts next pairs
  nexts_end pairs b are below = record {
    sound = λ n x got. (are.sound n x got).0;
    all = λ l x is. are.all l x (below l x is) is;
    order = are.order;
  }

  pub nexts_alike : (other : ℕ → Option NodePair) (pairs : List NodePair) → ((l : ℕ) → next l ≡ other l) → AreNexts next pairs → AreNexts other pairs
  nexts_alike other pairs same are = record {
    sound = λ n x got. sym (same x.place) ∙ are.sound n x got;
    all = λ l x is. are.all l x (same l ∙ is);
    order = are.order;
  }

  -- ---- gone over one by one

  module _ (stands : (l : ℕ) (x : NodePair) → next l ≡ Some x → x.place ≡ l) (pairs : List NodePair) (are : AreNexts next pairs) where
    -- between one pair and the next there is none
    pub nexts_between : (b i : ℕ) (y : NodePair) → IsCut at_place pairs b i → slice_get pairs i ≡ Some y → (l : ℕ) → b ≤ l → l < y.place → next l ≡ None
    nexts_between b i y cut at l le lt = elim (cases_Option (next l)) [
      | inl none ↦ none
      | inr some ↦ absurd (
          let x = some.0 in
          let found = are.all l x some.1 in
          let n = found.0 in
          let here : x.place ≡ l = stands l x some.1 in
          elim (cases_lt n i) [
            | inl less ↦ (
                let low = cut.before n x less in
                let item : at_place (get_or pairs n x) ≡ x.place = ap at_place (get_or_from_slice_get pairs n x x found.1) in
                omega (arith, low, item, here, le))
            | inr ge ↦ elim (cases_lt i n) [
              | inl more ↦ (let up = are.order i n y x more at found.1 in omega (arith, up, here, lt))
              | inr same ↦ (
                  let one : i ≡ n = omega (arith, ge, same) in
                  let both : Some y ≡ Some x = sym at ∙ ap (slice_get pairs) one ∙ found.1 in
                  let eq : y ≡ x = cc in
                  let place : y.place ≡ x.place = ap at_place eq in
                  omega (arith, place, here, lt))
            ]
          ])
    ]

    pub nexts_from : (b i : ℕ) (y : NodePair) → IsCut at_place pairs b i → slice_get pairs i ≡ Some y → b ≤ y.place
    nexts_from b i y cut at =
        let low = cut.behind i y (omega arith) (slice_get_within pairs i y at) in
        let item : at_place (get_or pairs i y) ≡ y.place = ap at_place (get_or_from_slice_get pairs i y y at) in
        omega (arith, low, item)

    pub nexts_past : (i : ℕ) (y : NodePair) → slice_get pairs i ≡ Some y → IsCut at_place pairs (y.place + 1) (i + 1)
    nexts_past i y at = record {
      within = (let in_list = slice_get_within pairs i y at in omega (arith, in_list));
      before = λ k d lt. (
          let here : slice_get pairs k ≡ Some (get_or pairs k d) = slice_get-get_or pairs k d (omega (arith, lt, slice_get_within pairs i y at)) in
          elim (cases_lt k i) [
            | inl less ↦ (let up = are.order k i (get_or pairs k d) y less here at in omega (arith, up))
            | inr ge ↦ (
                let one : k ≡ i = omega (arith, ge, lt) in
                let both : Some (get_or pairs k d) ≡ Some y = sym here ∙ ap (slice_get pairs) one ∙ at in
                let eq : get_or pairs k d ≡ y = cc in
                let place : at_place (get_or pairs k d) ≡ y.place = ap at_place eq in
                omega (arith, place))
          ]);
      behind = λ k d le lt. (
          let here : slice_get pairs k ≡ Some (get_or pairs k d) = slice_get-get_or pairs k d lt in
          let up = are.order i k y (get_or pairs k d) (omega (arith, le)) at here in
          omega (arith, up));
    }

    -- all are before the end
    pub nexts_all : (b i l : ℕ) (x : NodePair) → IsCut at_place pairs b i → length pairs ≤ i → next l ≡ Some x → l < b
    nexts_all b i l x cut all is =
        let found = are.all l x is in
        let low = cut.before found.0 x (omega (arith, all, slice_get_within pairs found.0 x found.1)) in
        let item : at_place (get_or pairs found.0 x) ≡ x.place = ap at_place (get_or_from_slice_get pairs found.0 x x found.1) in
        let here : x.place ≡ l = stands l x is in
        omega (arith, low, item, here)
