-- Each step of a search with a number keeps what makes its marks low enough.
use Rattle.std.proofs.Common.{◌≡◌, ◌⊎◌, ℕ, ◌<◌, ◌≤◌, Bool, true, false, not, ◌&&◌, eqb, leb, List, [], ◌∷◌, ◌++◌, None, length, get_or, refl, sym, ap, ◌∙◌, inl, inr, arith, le-leb, leb-true, vec_len}
use Rattle.std.specs.Option.{is_some}
use Rattle.std.proofs.lemmas.Bool.{cases_Bool, or_cases, or_left, or_right, and_from, and_parts, not-true, not_from_false, both_ways, eq-eqb, eqb-true, cases_lt}
use Rattle.std.proofs.lemmas.List.{get_or_past}
use Rattle.std.proofs.lemmas.List.Folds.{list_any-append}
use Rattle.reach_prune.specs.Searches.{is_among, is_listed}
use Rattle.preference_check.specs.Floods.{Marks, has_mark}
use Rattle.preference_check.specs.Rows.{has_upto}
use Rattle.preference_check.proofs.RowLemmas.{is_upto_more, is_upto_some}
use Rattle.preference_check.specs.declared.flood.Flood.{Flood}

-- a search with a number that has come some way from a node
pub record IsSpreading (lists : List (List ℕ)) (number from : ℕ) (first f : Flood) : Type 0 where
  pub size : vec_len f.marks ≡ length lists
  pub waits : (n : ℕ) → is_among f.waiting.items n ≡ true → has_mark f.marks.items n ≡ true
  pub fresh : (n v : ℕ) → is_among f.waiting.items n ≡ true → has_upto f.marks.items n v ≡ true → number ≤ v
  pub closed : (a b v : ℕ) → has_upto f.marks.items a v ≡ true → is_listed lists a b ≡ true → (has_upto f.marks.items b v ≡ true) ⊎ (is_among f.waiting.items a ≡ true)
  pub bounded : (n : ℕ) → has_mark f.marks.items n ≡ true → has_upto f.marks.items n number ≡ true
  pub kept : (n v : ℕ) → has_upto first.marks.items n v ≡ true → has_upto f.marks.items n v ≡ true
  pub here : has_upto f.marks.items from number ≡ true

-- it comes to some nodes
module _ (number : ℕ) (nodes : ℕ → Bool) (old new : Flood) (m : Marks number nodes old new) where
  stays : (n v : ℕ) → has_upto old.marks.items n v ≡ true → has_upto new.marks.items n v ≡ true
  stays n v h = m.marks n v ∙ or_left _ _ h

  marked_now : (n v : ℕ) → has_upto new.marks.items n v ≡ true → (has_upto old.marks.items n v ≡ true) ⊎ ((nodes n ≡ true) × (has_mark old.marks.items n ≡ false) × (number ≤ v))
  marked_now n v h = elim (or_cases (has_upto old.marks.items n v) (nodes n && (not (has_mark old.marks.items n) && leb number v)) (sym (m.marks n v) ∙ h)) [
    | inl t ↦ inl t
    | inr t ↦ (
        let one = and_parts (nodes n) (not (has_mark old.marks.items n) && leb number v) t in
        let other = and_parts (not (has_mark old.marks.items n)) (leb number v) one.1 in
        inr (one.0, not-true _ other.0, leb-true number v other.1))
  ]

  -- where no mark was greater, what it comes to has none that is
  reached_low : ((n : ℕ) → has_mark old.marks.items n ≡ true → has_upto old.marks.items n number ≡ true) → (n v : ℕ) → nodes n ≡ true → number ≤ v → has_upto new.marks.items n v ≡ true
  reached_low bounded n v h le = elim (cases_Bool (has_mark old.marks.items n)) [
    | inl t ↦ stays n v (is_upto_more _ number v le (bounded n t))
    | inr t ↦ m.marks n v ∙ or_right (has_upto old.marks.items n v) _ (and_from (nodes n) _ h (and_from (not (has_mark old.marks.items n)) (leb number v) (not_from_false _ t) (le-leb number v le)))
  ]

  bounded_still : ((n : ℕ) → has_mark old.marks.items n ≡ true → has_upto old.marks.items n number ≡ true) → (n : ℕ) → has_mark new.marks.items n ≡ true → has_upto new.marks.items n number ≡ true
  bounded_still bounded n h = elim (or_cases (has_mark old.marks.items n) (nodes n) (sym (m.marked n) ∙ h)) [
    | inl t ↦ stays n number (bounded n t)
    | inr t ↦ reached_low bounded n number t (omega arith)
  ]

waited : (s rest : List ℕ) (a n : ℕ) → s ≡ rest ++ a ∷ [] → is_among s n ≡ true → (is_among rest n ≡ true) ⊎ (a ≡ n)
waited s rest a n pop h = elim (or_cases (is_among rest n) (is_among (a ∷ []) n) (sym (ap (λ x. is_among x n) pop ∙ list_any-append (λ x. eqb x n) rest (a ∷ [])) ∙ h)) [
  | inl t ↦ inl t
  | inr t ↦ elim (or_cases (eqb a n) false t) [ inl u ↦ inr (eqb-true a n u) | inr u ↦ absurd (both_ways _ refl u) ]
]

waits_still : (s rest : List ℕ) (a n : ℕ) → s ≡ rest ++ a ∷ [] → is_among rest n ≡ true → is_among s n ≡ true
waits_still s rest a n pop h = ap (λ x. is_among x n) pop ∙ list_any-append (λ x. eqb x n) rest (a ∷ []) ∙ or_left _ _ h

waits_last : (s rest : List ℕ) (a : ℕ) → s ≡ rest ++ a ∷ [] → is_among s a ≡ true
waits_last s rest a pop = ap (λ x. is_among x a) pop ∙ list_any-append (λ x. eqb x a) rest (a ∷ []) ∙ or_right (is_among rest a) _ (or_left (eqb a a) false (eq-eqb a a refl))

-- the node that waited last goes, and its neighbours are come to
pub spread_next : (lists : List (List ℕ)) (number from a : ℕ) (nodes : List ℕ) (first old mid new : Flood) → IsSpreading lists number from first old
    → vec_len mid.marks ≡ vec_len old.marks → mid.marks.items ≡ old.marks.items
    → old.waiting.items ≡ mid.waiting.items ++ a ∷ [] → nodes ≡ get_or lists a [] → Marks number (is_among nodes) mid new → IsSpreading lists number from first new
spread_next lists number from a nodes first old mid new s len same pop listed m = record {
  size = m.size ∙ len ∙ s.size;
  waits = λ n h. elim (waiting n h) [ inl t ↦ m.marked n ∙ or_left _ _ (mark n (s.waits n (waits_still old.waiting.items mid.waiting.items a n pop t))) | inr t ↦ m.marked n ∙ or_right _ _ t.0 ];
  fresh = λ n v h up. elim (marked_now number (is_among nodes) mid new m n v up) [
    | inl t ↦ elim (waiting n h) [
      | inl w ↦ s.fresh n v (waits_still old.waiting.items mid.waiting.items a n pop w) (back n v t)
      | inr w ↦ absurd (both_ways _ w.1 (is_upto_some _ v t))
    ]
    | inr t ↦ t.2
  ];
  closed = λ b c v up l. elim (marked_now number (is_among nodes) mid new m b v up) [
    | inl t ↦ elim (s.closed b c v (back b v t) l) [
      | inl low ↦ inl (stays number (is_among nodes) mid new m c v (forth c v low))
      | inr w ↦ elim (waited old.waiting.items mid.waiting.items a b pop w) [
        | inl r ↦ inr (m.waiting b ∙ or_left _ _ r)
        | inr e ↦ inl (reached_low number (is_among nodes) mid new m bounded c v (ap (λ x. is_among x c) listed ∙ ap (λ x. is_listed lists x c) e ∙ l) (s.fresh b v w (back b v t)))
      ]
    ]
    | inr t ↦ inr (m.waiting b ∙ or_right (is_among mid.waiting.items b) _ (and_from (is_among nodes b) _ t.0 (not_from_false _ t.1)))
  ];
  bounded = bounded_still number (is_among nodes) mid new m bounded;
  kept = λ n v h. stays number (is_among nodes) mid new m n v (forth n v (s.kept n v h));
  here = stays number (is_among nodes) mid new m from number (forth from number s.here);
}
  where
    back : (n v : ℕ) → has_upto mid.marks.items n v ≡ true → has_upto old.marks.items n v ≡ true
    back n v h = sym (ap (λ x. has_upto x n v) same) ∙ h

    forth : (n v : ℕ) → has_upto old.marks.items n v ≡ true → has_upto mid.marks.items n v ≡ true
    forth n v h = ap (λ x. has_upto x n v) same ∙ h

    mark : (n : ℕ) → has_mark old.marks.items n ≡ true → has_mark mid.marks.items n ≡ true
    mark n h = ap (λ x. has_mark x n) same ∙ h

    bounded : (n : ℕ) → has_mark mid.marks.items n ≡ true → has_upto mid.marks.items n number ≡ true
    bounded n h = forth n number (s.bounded n (sym (ap (λ x. has_mark x n) same) ∙ h))

    waiting : (n : ℕ) → is_among new.waiting.items n ≡ true → (is_among mid.waiting.items n ≡ true) ⊎ ((is_among nodes n ≡ true) × (has_mark mid.marks.items n ≡ false))
    waiting n h = elim (or_cases (is_among mid.waiting.items n) (is_among nodes n && not (has_mark mid.marks.items n)) (sym (m.waiting n) ∙ h)) [
      | inl t ↦ inl t
      | inr t ↦ let parts = and_parts (is_among nodes n) (not (has_mark mid.marks.items n)) t in inr (parts.0, not-true _ parts.1)
    ]

-- a node that waits is one that has a list
pub spread_node : (lists : List (List ℕ)) (number from a : ℕ) (first f : Flood) (rest : List ℕ) → IsSpreading lists number from first f → f.waiting.items ≡ rest ++ a ∷ [] → a < length lists
spread_node lists number from a first f rest s pop = elim (cases_lt a (length f.marks.items)) [
  | inl lt ↦ omega (arith, lt, s.size, f.marks.ok.0)
  | inr past ↦ absurd (both_ways _ (ap is_some (get_or_past f.marks.items a None past)) (s.waits a (waits_last f.waiting.items rest a pop)))
]
