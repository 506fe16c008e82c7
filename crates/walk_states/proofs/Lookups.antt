-- The table of numbers stays right as rows and keys are added.
use Rattle.std.proofs.Common.{◌≡◌, ℕ, zero, suc, ◌+◌, ◌-◌, ◌<◌, ◌≤◌, Bool, true, false, cond, List, [], ◌∷◌, ◌++◌, length}
use Rattle.std.proofs.Common.{replicate, take, get_or, Option, Some, None, ◌⊎◌, inl, inr, refl, sym, ap, subst, ◌∙◌, arith, length-append}
use Rattle.std.specs.Prelude.{◌==◌, is_some, slice_get, slice_set, unwrap_or}
use Rattle.std.specs.List.{list_any, IsDistinct}
use Rattle.std.specs.Option.{option_and_then}
use Rattle.std.proofs.lemmas.Bool.{and_parts, and_from, cases_eq, cond-true, cond-false, eq-eqb, eqb-true, false_from_ne_true, or_left, or_right}
use Rattle.std.proofs.lemmas.List.{length-replicate, length-set, take_all}
use Rattle.std.proofs.lemmas.Option.{none-some, same_Some, slice_get_read}
use Rattle.std.proofs.lemmas.Map.Keys.{IsDistinct-cons}
use Rattle.list_law.proofs.Each.{AllByRecursion-from_list_any}
use Rattle.list_law.proofs.Items.{slice_get_in_front, slice_get-there}
use Rattle.list_law.proofs.Tests.{list_any_parts}
use Rattle.path_automata.proofs.ClassLemmas.{get-push}
use Rattle.walk_states.specs.Table.{AreFound, AreInside, AreRight, AreRowsApart, Key, entry, number_in, same_key, with_key}

-- entries

pub entry-read : (list : List (Option ℕ)) (place : ℕ) (x : Option ℕ) → place < length list → x ≡ get_or list place x → entry list place ≡ x
entry-read list place x lt is = ap (λ o. unwrap_or o None) (slice_get_read list (length list) place x refl lt is)

entry-within : (list : List (Option ℕ)) (place n : ℕ) → entry list place ≡ Some n → place < length list
entry-within [] place n h = absurd (none-some n h)
entry-within (x ∷ xs) zero n h = omega arith
entry-within (x ∷ xs) (suc place) n h = let rest = entry-within xs place n h in omega arith

entry-filled : (count place : ℕ) → entry (replicate count None) place ≡ None
entry-filled zero place = refl
entry-filled (suc count) zero = refl
entry-filled (suc count) (suc place) = entry-filled count place

-- places behind the last one have no entry, whether they are there or not
entry-grown : (list : List (Option ℕ)) (count place : ℕ) → entry (list ++ replicate count None) place ≡ entry list place
entry-grown [] count place = entry-filled count place
entry-grown (x ∷ xs) count zero = refl
entry-grown (x ∷ xs) count (suc place) = entry-grown xs count place

pub entry-set : (list : List (Option ℕ)) (place : ℕ) (o : Option ℕ) → place < length list → entry (slice_set list place o) place ≡ o
entry-set [] place o lt = absurd (omega arith)
entry-set (x ∷ xs) zero o lt = refl
entry-set (x ∷ xs) (suc place) o lt = entry-set xs place o (omega arith)

entry-other : (list : List (Option ℕ)) (place other : ℕ) (o : Option ℕ) → (place ≡ other → ⊥) → entry (slice_set list place o) other ≡ entry list other
entry-other [] place other o ne = refl
entry-other (x ∷ xs) zero zero o ne = absurd (ne refl)
entry-other (x ∷ xs) zero (suc other) o ne = refl
entry-other (x ∷ xs) (suc place) zero o ne = refl
entry-other (x ∷ xs) (suc place) (suc other) o ne = entry-other xs place other o (λ e. ne (ap suc e))

-- a list that is filled up, or for lack of memory isn't
pub filled-up : (width n len : ℕ) (xs new : List (Option ℕ)) → new ≡ take n xs ++ replicate (n - len) None → len ≡ length xs → n ≡ len + width → new ≡ xs ++ replicate width None
filled-up width n len xs new e size longer =
    let more : n - len ≡ width = omega arith in
    e ∙ ap (λ l. l ++ replicate (n - len) None) (take_all n xs (omega arith)) ∙ ap (λ k. xs ++ replicate k None) more

pub entry-resized : (b : Bool) (n count : ℕ) (xs new : List (Option ℕ)) → new ≡ cond b (take n xs ++ replicate count None) xs → length xs ≤ n
    → (length xs ≤ length new) × ((place : ℕ) → entry new place ≡ entry xs place)
entry-resized true n count xs new e le =
    let is : new ≡ xs ++ replicate count None = e ∙ ap (λ l. l ++ replicate count None) (take_all n xs le) in
    let size = ap length is ∙ length-append xs (replicate count None) in
    (omega (arith, size), λ place. ap (λ l. entry l place) is ∙ entry-grown xs count place)
entry-resized false n count xs new e le = (omega (arith, ap length e), λ place. ap (λ l. entry l place) e)

-- what the table says

pub record Table (width : ℕ) (rows numbers : List (Option ℕ)) (keys : List Key) : Type 0 where
  pub inside : AreInside width rows numbers
  pub apart : AreRowsApart width rows
  pub right : AreRight width rows numbers keys
  pub found : AreFound rows numbers keys

pub number-of_row : (rows numbers : List (Option ℕ)) (k : Key) (o : Option ℕ) → entry rows k.1 ≡ o → number_in rows numbers k ≡ option_and_then (λ row. entry numbers (row + k.0)) o
number-of_row rows numbers k o e = ap (option_and_then (λ row. entry numbers (row + k.0))) e

row-of_number : (rows numbers : List (Option ℕ)) (k : Key) (n : ℕ) → number_in rows numbers k ≡ Some n
    → (row : ℕ) × (entry rows k.1 ≡ Some row) × (entry numbers (row + k.0) ≡ Some n)
row-of_number rows numbers k n h = at (entry rows k.1) refl h
  where
    at : (o : Option ℕ) → entry rows k.1 ≡ o → option_and_then (λ row. entry numbers (row + k.0)) o ≡ Some n
        → (row : ℕ) × (entry rows k.1 ≡ Some row) × (entry numbers (row + k.0) ≡ Some n)
    at None e g = absurd (none-some n g)
    at (Some row) e g = (row, e, g)

-- only entries matter
pub table-alike : (width : ℕ) (rows numbers new grown : List (Option ℕ)) (keys : List Key) → Table width rows numbers keys
    → ((s : ℕ) → entry new s ≡ entry rows s) → (length numbers ≤ length grown) × ((place : ℕ) → entry grown place ≡ entry numbers place) → Table width new grown keys
table-alike width rows numbers new grown keys t alike same = record {
  inside = λ s row h. omega (arith, t.inside s row (sym (alike s) ∙ h), same.0);
  apart = λ s u row other at on h g. t.apart s u row other at on (sym (alike s) ∙ h) (sym (alike u) ∙ g);
  right = λ k n lt h.
      let r = row-of_number new grown k n h in
      t.right k n lt (number-of_row rows numbers k (Some r.0) (sym (alike k.1) ∙ r.1) ∙ sym (same.1 (r.0 + k.0)) ∙ r.2);
  found = λ k n g.
      let r = row-of_number rows numbers k n (t.found k n g) in
      number-of_row new grown k (Some r.0) (alike k.1 ∙ r.1) ∙ same.1 (r.0 + k.0) ∙ r.2;
}

-- no key is where no number is found
pub absent : (width : ℕ) (rows numbers : List (Option ℕ)) (keys : List Key) → Table width rows numbers keys → (k : Key) → number_in rows numbers k ≡ None
    → (n : ℕ) → slice_get keys n ≡ Some k → ⊥
absent width rows numbers keys t k none n g = none-some n (sym none ∙ t.found k n g)

row-cases : (rows : List (Option ℕ)) (state begin : ℕ) → state < length rows → (s row : ℕ) → entry (slice_set rows state (Some begin)) s ≡ Some row
    → ((state ≡ s) × (begin ≡ row)) ⊎ (entry rows s ≡ Some row)
row-cases rows state begin lt s row h = elim (cases_eq state s) [
  | inl e ↦ inl (e, same_Some _ _ (sym (entry-set rows state (Some begin) lt) ∙ ap (entry (slice_set rows state (Some begin))) e ∙ h))
  | inr ne ↦ inr (sym (entry-other rows state s (Some begin) ne) ∙ h)
]

-- a row is added
table-row : (width : ℕ) (rows numbers : List (Option ℕ)) (keys : List Key) (state : ℕ) → Table width rows numbers keys → state < length rows → entry rows state ≡ None
    → Table width (slice_set rows state (Some (length numbers))) (numbers ++ replicate width None) keys
table-row width rows numbers keys state t lt new = record { inside = inside; apart = apart; right = right; found = found }
  where
    size : length (numbers ++ replicate width None) ≡ length numbers + width
    size = length-append numbers (replicate width None) ∙ ap (λ n. length numbers + n) (length-replicate width None)

    inside : AreInside width (slice_set rows state (Some (length numbers))) (numbers ++ replicate width None)
    inside s row h = elim (row-cases rows state (length numbers) lt s row h) [
      | inl e ↦ omega (arith, e.1, size)
      | inr e ↦ omega (arith, t.inside s row e, size)
    ]

    apart : AreRowsApart width (slice_set rows state (Some (length numbers)))
    apart s u row other at on h g la lo e = elim (row-cases rows state (length numbers) lt s row h) [
      | inl p ↦ elim (row-cases rows state (length numbers) lt u other g) [
        | inl q ↦ sym p.0 ∙ q.0
        | inr q ↦ absurd (omega (arith, p.1, t.inside u other q, lo, e))
      ]
      | inr p ↦ elim (row-cases rows state (length numbers) lt u other g) [
        | inl q ↦ absurd (omega (arith, q.1, t.inside s row p, la, e))
        | inr q ↦ t.apart s u row other at on p q la lo e
      ]
    ]

    right : AreRight width (slice_set rows state (Some (length numbers))) (numbers ++ replicate width None) keys
    right k n low h =
        let r = row-of_number (slice_set rows state (Some (length numbers))) (numbers ++ replicate width None) k n h in
        let was : entry numbers (r.0 + k.0) ≡ Some n = sym (entry-grown numbers width (r.0 + k.0)) ∙ r.2 in
        elim (row-cases rows state (length numbers) lt k.1 r.0 r.1) [
          | inl e ↦ absurd (omega (arith, e.1, entry-within numbers (r.0 + k.0) n was))
          | inr e ↦ t.right k n low (number-of_row rows numbers k (Some r.0) e ∙ was)
        ]

    found : AreFound (slice_set rows state (Some (length numbers))) (numbers ++ replicate width None) keys
    found k n g =
        let r = row-of_number rows numbers k n (t.found k n g) in
        let other : state ≡ k.1 → ⊥ = λ e. none-some r.0 (sym new ∙ ap (entry rows) e ∙ r.1) in
        number-of_row (slice_set rows state (Some (length numbers))) (numbers ++ replicate width None) k (Some r.0) (entry-other rows state k.1 (Some (length numbers)) other ∙ r.1)
        ∙ entry-grown numbers width (r.0 + k.0) ∙ r.2

pub table-made : (width : ℕ) (rows numbers grown : List (Option ℕ)) (keys : List Key) (state begin : ℕ) → Table width rows numbers keys → state < length rows → entry rows state ≡ None
    → begin ≡ length numbers → grown ≡ numbers ++ replicate width None → Table width (slice_set rows state (Some begin)) grown keys
table-made width rows numbers grown keys state begin t lt new at longer =
    subst (λ l. Table width (slice_set rows state (Some begin)) l keys) (sym longer)
    (subst (λ b. Table width (slice_set rows state (Some b)) (numbers ++ replicate width None) keys) (sym at) (table-row width rows numbers keys state t lt new))

-- a key is added
table-key : (width : ℕ) (rows numbers : List (Option ℕ)) (keys : List Key) (k : Key) (row : ℕ) → Table width rows numbers keys → entry rows k.1 ≡ Some row → k.0 < width
    → ((n : ℕ) → slice_get keys n ≡ Some k → ⊥) → Table width rows (slice_set numbers (row + k.0) (Some (length keys))) (keys ++ k ∷ [])
table-key width rows numbers keys k row t has low gone = record { inside = inside; apart = t.apart; right = right; found = found }
  where
    place : row + k.0 < length numbers
    place = omega (arith, t.inside k.1 row has, low)

    inside : AreInside width rows (slice_set numbers (row + k.0) (Some (length keys)))
    inside s other h = omega (arith, t.inside s other h, length-set numbers (row + k.0) (Some (length keys)))

    right : AreRight width rows (slice_set numbers (row + k.0) (Some (length keys))) (keys ++ k ∷ [])
    right j n lower h =
        let r = row-of_number rows (slice_set numbers (row + k.0) (Some (length keys))) j n h in
        elim (cases_eq (row + k.0) (r.0 + j.0)) [
          | inl e ↦
              let state : k.1 ≡ j.1 = t.apart k.1 j.1 row r.0 k.0 j.0 has r.1 low lower e in
              let begin : row ≡ r.0 = same_Some _ _ (sym has ∙ ap (entry rows) state ∙ r.1) in
              let at : k.0 ≡ j.0 = omega (arith, begin, e) in
              let is : length keys ≡ n = same_Some _ _ (sym (entry-set numbers (row + k.0) (Some (length keys)) place)
              ∙ ap (entry (slice_set numbers (row + k.0) (Some (length keys)))) e ∙ r.2) in
              ap (slice_get (keys ++ k ∷ [])) (sym is) ∙ slice_get-there keys k [] ∙ (λ i. Some (at i, state i))
          | inr ne ↦ slice_get_in_front keys (k ∷ []) n j
              (t.right j n lower (number-of_row rows numbers j (Some r.0) r.1 ∙ sym (entry-other numbers (row + k.0) (r.0 + j.0) (Some (length keys)) ne) ∙ r.2))
        ]

    found : AreFound rows (slice_set numbers (row + k.0) (Some (length keys))) (keys ++ k ∷ [])
    found j n g = elim (get-push keys k n j g) [
      | inl e ↦
          let r = row-of_number rows numbers j n (t.found j n e) in
          let other : row + k.0 ≡ r.0 + j.0 → ⊥ = λ p. gone n (t.right k n low (number-of_row rows numbers k (Some row) has ∙ ap (entry numbers) p ∙ r.2)) in
          number-of_row rows (slice_set numbers (row + k.0) (Some (length keys))) j (Some r.0) r.1
          ∙ entry-other numbers (row + k.0) (r.0 + j.0) (Some (length keys)) other ∙ r.2
      | inr e ↦
          ap (number_in rows (slice_set numbers (row + k.0) (Some (length keys)))) (sym e.1)
          ∙ number-of_row rows (slice_set numbers (row + k.0) (Some (length keys))) k (Some row) has
          ∙ entry-set numbers (row + k.0) (Some (length keys)) place ∙ ap Some (sym e.0)
    ]

pub table-put : (width : ℕ) (rows numbers : List (Option ℕ)) (keys new : List Key) (k : Key) (row place n : ℕ) → Table width rows numbers keys → entry rows k.1 ≡ Some row
    → k.0 < width → ((n : ℕ) → slice_get keys n ≡ Some k → ⊥) → place ≡ row + k.0 → n ≡ length keys → new ≡ keys ++ k ∷ []
    → Table width rows (slice_set numbers place (Some n)) new
table-put width rows numbers keys new k row place n t has low gone at number longer =
    subst (λ l. Table width rows (slice_set numbers place (Some n)) l) (sym longer)
    (subst (λ p. Table width rows (slice_set numbers p (Some n)) (keys ++ k ∷ [])) (sym at)
    (subst (λ m. Table width rows (slice_set numbers (row + k.0) (Some m)) (keys ++ k ∷ [])) (sym number) (table-key width rows numbers keys k row t has low gone)))

-- keys among others

pub same_key-equal : (a b : Key) → same_key a b ≡ true → a ≡ b
same_key-equal a b h =
    let parts = and_parts (a.0 == b.0) (a.1 == b.1) h in
    λ i. (eqb-true a.0 b.0 parts.0 i, eqb-true a.1 b.1 parts.1 i)

same_key-itself : (k : Key) → same_key k k ≡ true
same_key-itself k = and_from (k.0 == k.0) (k.1 == k.1) (eq-eqb k.0 k.0 refl) (eq-eqb k.1 k.1 refl)

key-among : (ks : List Key) (n : ℕ) (k : Key) → slice_get ks n ≡ Some k → list_any (same_key k) ks ≡ true
key-among [] n k h = absurd (none-some k h)
key-among (j ∷ js) zero k h = or_left (same_key k j) (list_any (same_key k) js) (ap (same_key k) (same_Some j k h) ∙ same_key-itself k)
key-among (j ∷ js) (suc n) k h = or_right (same_key k j) (list_any (same_key k) js) (key-among js n k h)

pub with_key-there : (ks : List Key) (n : ℕ) (k : Key) → slice_get ks n ≡ Some k → with_key ks k ≡ ks
with_key-there ks n k h = cond-true (list_any (same_key k) ks) ks (ks ++ k ∷ []) (key-among ks n k h)

key-gone : (ks : List Key) (k : Key) → ((n : ℕ) → slice_get ks n ≡ Some k → ⊥) → list_any (same_key k) ks ≡ false
key-gone ks k gone = false_from_ne_true (list_any (same_key k) ks) (λ h.
    let p = list_any_parts (same_key k) ks h in
    gone p.0 (p.2 ∙ ap Some (sym (same_key-equal k p.1 p.3))))

pub with_key-new : (ks : List Key) (k : Key) → ((n : ℕ) → slice_get ks n ≡ Some k → ⊥) → with_key ks k ≡ ks ++ k ∷ []
with_key-new ks k gone = cond-false (list_any (same_key k) ks) ks (ks ++ k ∷ []) (key-gone ks k gone)

-- a key is among the others where a number is found
pub key-test : (width : ℕ) (rows numbers : List (Option ℕ)) (keys : List Key) → Table width rows numbers keys → (k : Key) → k.0 < width
    → is_some (number_in rows numbers k) ≡ list_any (same_key k) keys
key-test width rows numbers keys t k low = at (number_in rows numbers k) refl
  where
    at : (o : Option ℕ) → number_in rows numbers k ≡ o → is_some o ≡ list_any (same_key k) keys
    at None e = sym (key-gone keys k (absent width rows numbers keys t k e))
    at (Some n) e = sym (key-among keys n k (t.right k n low e))

-- keys that each have one place are distinct
one-place : (ks : List Key) → ((k : Key) (n m : ℕ) → slice_get ks n ≡ Some k → slice_get ks m ≡ Some k → n ≡ m) → IsDistinct same_key ks
unfolding IsDistinct
one-place [] one = tt
one-place (k ∷ ks) one = IsDistinct-cons same_key k ks
    (AllByRecursion-from_list_any (same_key k) ks (key-gone ks k (λ n g. let e = one k 0 (suc n) refl g in omega (arith, e))))
    (one-place ks (λ j n m g h. let e = one j (suc n) (suc m) g h in omega (arith, e)))

pub keys-distinct : (rows numbers : List (Option ℕ)) (keys : List Key) → AreFound rows numbers keys → IsDistinct same_key keys
keys-distinct rows numbers keys found = one-place keys (λ k n m g h. same_Some n m (sym (found k n g) ∙ found k m h))
