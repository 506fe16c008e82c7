-- The first alternative that a path meets, in lists that are made of others.
use Rattle.std.proofs.Common.{◌≡◌, ℕ, suc, zero, ◌+◌, ◌*◌, ◌<◌, ◌≤◌, ◌⊎◌, true, false, ◌&&◌, List, [], ◌∷◌, ◌++◌, length, map, refl, sym, ap, ◌∙◌, arith, inl, inr, length-append, add_assoc}
use Rattle.std.proofs.lemmas.List.{length-map, nil_from_length}
use Rattle.std.proofs.Math.Nat.{suc-mul, zero-mul}
use Rattle.std.specs.Prelude.{Option, Some, None, option_map, option_and_then, if◌then◌else◌}
use Rattle.std.specs.Option.{ForSome, option_or}
use Rattle.std.proofs.lemmas.Bool.{cases_Bool}
use Rattle.net_base.specs.Network.{PlainNet}
use Rattle.policy_base.specs.Policies.{Ranking, call, calls, prefer, either, both, negated}
use Rattle.policy_base.specs.Meaning.{PathTest, both_tests, place_of, alternatives, alternative_count, rank_of}
use Rattle.policy_base.proofs.RankLemmas.{pairs}

here : (p : PathTest) (ps : List PathTest) (path : List ℕ) (k : ℕ) → p path ≡ true → place_of (p ∷ ps) path k ≡ Some k
here p ps path k met = ap (λ b. if b then Some k else place_of ps path (k + 1)) met

later : (p : PathTest) (ps : List PathTest) (path : List ℕ) (k : ℕ) → p path ≡ false → place_of (p ∷ ps) path k ≡ place_of ps path (k + 1)
later p ps path k missed = ap (λ b. if b then Some k else place_of ps path (k + 1)) missed

-- counted from another number
pub place_of-from : (ps : List PathTest) (path : List ℕ) (k m : ℕ) → place_of ps path (k + m) ≡ option_map (λ n. k + n) (place_of ps path m)
place_of-from [] path k m = refl
place_of-from (p ∷ ps) path k m = elim (cases_Bool (p path)) [
  | inl met ↦ here p ps path (k + m) met ∙ sym (ap (option_map (λ n. k + n)) (here p ps path m met))
  | inr missed ↦
      later p ps path (k + m) missed ∙ ap (place_of ps path) (add_assoc k m 1) ∙ place_of-from ps path k (m + 1)
      ∙ sym (ap (option_map (λ n. k + n)) (later p ps path m missed))
]

-- within the list
pub place_of-within : (ps : List PathTest) (path : List ℕ) (k i : ℕ) → place_of ps path k ≡ Some i → (k ≤ i) × (i < k + length ps)
place_of-within [] path k i found = cc
place_of-within (p ∷ ps) path k i found = elim (cases_Bool (p path)) [
  | inl met ↦ let e : k ≡ i = cc (here p ps path k met, found) in omega (arith, e)
  | inr missed ↦
      let rest = place_of-within ps path (k + 1) i (sym (later p ps path k missed) ∙ found) in
      (omega (arith, rest.0), omega (arith, rest.1))
]

pub append_some : (ps qs : List PathTest) (path : List ℕ) (k i : ℕ) → place_of ps path k ≡ Some i → place_of (ps ++ qs) path k ≡ Some i
append_some [] qs path k i found = cc
append_some (p ∷ ps) qs path k i found = elim (cases_Bool (p path)) [
  | inl met ↦ here p (ps ++ qs) path k met ∙ sym (here p ps path k met) ∙ found
  | inr missed ↦ later p (ps ++ qs) path k missed ∙ append_some ps qs path (k + 1) i (sym (later p ps path k missed) ∙ found)
]

pub append_none : (ps qs : List PathTest) (path : List ℕ) (k : ℕ) → place_of ps path k ≡ None → place_of (ps ++ qs) path k ≡ place_of qs path (k + length ps)
append_none [] qs path k none = ap (place_of qs path) (omega arith)
append_none (p ∷ ps) qs path k none = elim (cases_Bool (p path)) [
  | inl met ↦ cc (here p ps path k met, none)
  | inr missed ↦
      later p (ps ++ qs) path k missed ∙ append_none ps qs path (k + 1) (sym (later p ps path k missed) ∙ none)
      ∙ ap (place_of qs path) (omega arith)
]

row_met : (p : PathTest) (qs : List PathTest) (path : List ℕ) (k : ℕ) → p path ≡ true → place_of (map (both_tests p) qs) path k ≡ place_of qs path k
row_met p [] path k met = refl
row_met p (q ∷ qs) path k met =
    ap (λ r. if (both_tests p q path) then Some k else r) (row_met p qs path (k + 1) met)
    ∙ ap (λ b. if b then Some k else place_of qs path (k + 1)) (ap (λ b. b && q path) met)

row_missed : (p : PathTest) (qs : List PathTest) (path : List ℕ) (k : ℕ) → p path ≡ false → place_of (map (both_tests p) qs) path k ≡ None
row_missed p [] path k missed = refl
row_missed p (q ∷ qs) path k missed =
    later (both_tests p q) (map (both_tests p) qs) path k (ap (λ b. b && q path) missed) ∙ row_missed p qs path (k + 1) missed

-- no pair is met where none of the second list is
pub pairs_no_second : (ps qs : List PathTest) (path : List ℕ) (k : ℕ) → ((m : ℕ) → place_of qs path m ≡ None) → place_of (pairs ps qs) path k ≡ None
pairs_no_second [] qs path k none = refl
pairs_no_second (p ∷ ps) qs path k none =
    append_none (map (both_tests p) qs) (pairs ps qs) path k (row_none (cases_Bool (p path))) ∙ pairs_no_second ps qs path _ none where
      row_none : (p path ≡ true) ⊎ (p path ≡ false) → place_of (map (both_tests p) qs) path k ≡ None
      row_none (inl met) = row_met p qs path k met ∙ none k
      row_none (inr missed) = row_missed p qs path k missed

-- nor where none of the first list is
pub pairs_no_first : (ps qs : List PathTest) (path : List ℕ) (k m : ℕ) → place_of ps path m ≡ None → place_of (pairs ps qs) path k ≡ None
pairs_no_first [] qs path k m none = refl
pairs_no_first (p ∷ ps) qs path k m none = elim (cases_Bool (p path)) [
  | inl met ↦ cc (here p ps path m met, none)
  | inr missed ↦
      append_none (map (both_tests p) qs) (pairs ps qs) path k (row_missed p qs path k missed)
      ∙ pairs_no_first ps qs path _ (m + 1) (sym (later p ps path m missed) ∙ none)
]

-- the first pair that is met has the first place that is met in each list
pub pairs_some : (ps qs : List PathTest) (path : List ℕ) (k m i j : ℕ) → place_of ps path m ≡ Some (m + i) → ((n : ℕ) → place_of qs path n ≡ Some (n + j))
    → place_of (pairs ps qs) path k ≡ Some (k + (i * length qs + j))
pairs_some [] qs path k m i j first second = cc
pairs_some (p ∷ ps) qs path k m zero j first second = elim (cases_Bool (p path)) [
  | inl met ↦
      append_some (map (both_tests p) qs) (pairs ps qs) path k _ (row_met p qs path k met ∙ second k)
      ∙ ap Some (omega (arith, zero-mul (length qs)))
  | inr missed ↦ absurd (omega (arith, place_of-within ps path (m + 1) (m + 0) (sym (later p ps path m missed) ∙ first)))
]
pairs_some (p ∷ ps) qs path k m (suc i) j first second = elim (cases_Bool (p path)) [
  | inl met ↦ let e : Some m ≡ Some (m + suc i) = sym (here p ps path m met) ∙ first in let n : m ≡ m + suc i = cc in absurd (omega (arith, n))
  | inr missed ↦
      append_none (map (both_tests p) qs) (pairs ps qs) path k (row_missed p qs path k missed)
      ∙ pairs_some ps qs path _ (m + 1) i j (sym (later p ps path m missed) ∙ first ∙ ap Some (omega arith)) second
      ∙ ap Some (omega (arith, length-map qs (both_tests p), suc-mul i (length qs)))
]

length-pairs : (ps qs : List PathTest) → length (pairs ps qs) ≡ length ps * length qs
length-pairs [] qs = omega arith
length-pairs (p ∷ ps) qs =
    length-append (map (both_tests p) qs) (pairs ps qs) ∙ omega (arith, length-map qs (both_tests p), length-pairs ps qs, suc-mul (length ps) (length qs))

-- the count is the length of the list
pub length-alternatives : (net : PlainNet) (r : Ranking) → length (alternatives net r) ≡ alternative_count r
length-alternatives net (call c) = refl
length-alternatives net (calls cs) = length-map cs _
length-alternatives net (prefer a b) = length-append (alternatives net a) (alternatives net b) ∙ cc (length-alternatives net a, length-alternatives net b)
length-alternatives net (both a b) = length-pairs (alternatives net a) (alternatives net b) ∙ cc (length-alternatives net a, length-alternatives net b)
length-alternatives net (either a b) = refl
length-alternatives net (negated a) = refl

-- the first place in two lists one after the other
pub place_of-append : (ps qs : List PathTest) (path : List ℕ)
    → place_of (ps ++ qs) path 0 ≡ option_or (place_of ps path 0) (option_map (λ j. length ps + j) (place_of qs path 0))
place_of-append ps qs path = by (place_of ps path 0) refl where
  by : (first : Option ℕ) → place_of ps path 0 ≡ first → place_of (ps ++ qs) path 0 ≡ option_or (place_of ps path 0) (option_map (λ j. length ps + j) (place_of qs path 0))
  by (Some i) found = append_some ps qs path 0 i found ∙ sym (ap (λ o. option_or o (option_map (λ j. length ps + j) (place_of qs path 0))) found)
  by None none =
      append_none ps qs path 0 none ∙ ap (place_of qs path) (omega arith) ∙ place_of-from qs path (length ps) 0
      ∙ sym (ap (λ o. option_or o (option_map (λ j. length ps + j) (place_of qs path 0))) none)

-- the first place in all pairs
pub place_of-pairs : (ps qs : List PathTest) (path : List ℕ)
    → place_of (pairs ps qs) path 0 ≡ option_and_then (λ i. option_map (λ j. i * length qs + j) (place_of qs path 0)) (place_of ps path 0)
place_of-pairs ps qs path = by (place_of ps path 0) refl (place_of qs path 0) refl where
  from_zero : (m : ℕ) → place_of qs path m ≡ option_map (λ n. m + n) (place_of qs path 0)
  from_zero m = ap (place_of qs path) (omega arith) ∙ place_of-from qs path m 0

  by : (first : Option ℕ) → place_of ps path 0 ≡ first → (second : Option ℕ) → place_of qs path 0 ≡ second
      → place_of (pairs ps qs) path 0 ≡ option_and_then (λ i. option_map (λ j. i * length qs + j) (place_of qs path 0)) (place_of ps path 0)
  by None none second is =
      pairs_no_first ps qs path 0 0 none ∙ sym (ap (option_and_then (λ i. option_map (λ j. i * length qs + j) (place_of qs path 0))) none)
  by (Some i) found None none =
      pairs_no_second ps qs path 0 (λ m. from_zero m ∙ ap (option_map (λ n. m + n)) none)
      ∙ sym (rw (found, none) refl)
  by (Some i) found (Some j) second =
      pairs_some ps qs path 0 0 i j (found ∙ ap Some (omega arith)) (λ m. from_zero m ∙ ap (option_map (λ n. m + n)) second)
      ∙ sym (rw (found, second) (ap Some (omega arith)))

-- below any bound of the length
pub place_of-below : (net : PlainNet) (r : Ranking) (path : List ℕ) (bound : ℕ) → alternative_count r ≤ bound
    → (first : Option ℕ) → first ≡ place_of (alternatives net r) path 0 → ForSome first (λ i. i < bound)
place_of-below net r path bound few first is i found =
    omega (arith, place_of-within (alternatives net r) path 0 i (sym is ∙ found), length-alternatives net r)

-- there is no place where there is no alternative
pub place_of_none : (net : PlainNet) (r : Ranking) (path : List ℕ) → alternative_count r ≡ 0 → None ≡ place_of (alternatives net r) path 0
place_of_none net r path none = sym (ap (λ ps. place_of ps path 0) (nil_from_length (alternatives net r) (length-alternatives net r ∙ none)))

-- a rank is a place counted from 1
pub rank_some : (net : PlainNet) (r : Ranking) (path : List ℕ) (place : ℕ) → Some place ≡ place_of (alternatives net r) path 0
    → Some (place + 1) ≡ rank_of net r path
rank_some net r path place is =
    ap Some (omega arith) ∙ ap (option_map (λ n. 1 + n)) is ∙ sym (place_of-from (alternatives net r) path 1 0)

pub rank_none : (net : PlainNet) (r : Ranking) (path : List ℕ) → None ≡ place_of (alternatives net r) path 0 → None ≡ rank_of net r path
rank_none net r path is = ap (option_map (λ n. 1 + n)) is ∙ sym (place_of-from (alternatives net r) path 1 0)
