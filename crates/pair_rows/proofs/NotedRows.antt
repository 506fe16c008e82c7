-- A row that is met joins the rows of its place.
use Rattle.std.proofs.Common.{◌≡◌, ℕ, zero, suc, ◌<◌, ◌≤◌, true, List, [], ◌∷◌, ◌++◌, drop, length, min, set, take, refl, sym, ap, ◌∙◌, subst, subst₂, arith, inl, inr, Some, take-append-drop}
use Rattle.std.specs.Prelude.{slice_get, IsTrue}
use Rattle.std.proofs.lemmas.Bool.{cases_eq, cases_lt, cases_order}
use Rattle.std.proofs.lemmas.Option.{same_Some, slice_get_within}
use Rattle.list_law.specs.Members.{IsIn}
use Rattle.list_law.proofs.Items.{slice_get_inside}
use Rattle.list_law.proofs.Members.{IsIn-append_cases, IsIn-append_left, IsIn-append_right, IsIn-later, IsIn-push, IsIn-push_cases}
use Rattle.compare_base.specs.declared.rows.Row.{Row}
use Rattle.pair_rows.specs.declared.values.Met.{Met}
use Rattle.pair_rows.specs.declared.values.FirstRow.{FirstRow}
use Rattle.pair_rows.specs.Meetings.{AreFirst, earlier}
use Rattle.pair_rows.proofs.RowOrder.{earlier_apart, earlier_trans}
use Rattle.pair_rows.proofs.SetItems.{item_set, kept, replaced, set_elsewhere, set_there}

-- ---- lists

-- an item after one was put in
data IsInserted {A : Type 0} (xs : List A) (i : ℕ) (x : A) (j : ℕ) (y : A) : Type 0 where
  before : j < i → slice_get xs j ≡ Some y → IsInserted xs i x j y
  here : j ≡ i → x ≡ y → IsInserted xs i x j y
  behind : (k : ℕ) → j ≡ suc k → i ≤ k → slice_get xs k ≡ Some y → IsInserted xs i x j y

inserted : {A : Type 0} (xs : List A) (i : ℕ) (x : A) (j : ℕ) (y : A) → i ≤ length xs → slice_get (take i xs ++ x ∷ drop i xs) j ≡ Some y → IsInserted xs i x j y
inserted xs zero x zero y within at = here refl (same_Some x y at)
inserted xs zero x (suc j) y within at = behind j refl (omega arith) at
inserted [] (suc i) x j y within at = absurd (omega (arith, within))
inserted (z ∷ xs) (suc i) x zero y within at = before (omega arith) at
inserted (z ∷ xs) (suc i) x (suc j) y within at = elim (inserted xs i x j y (omega (arith, within)) at) [
  | before less there ↦ before (omega (arith, less)) there
  | here same is ↦ here (omega (arith, same)) is
  | behind k same most there ↦ behind (suc k) (omega (arith, same)) (omega (arith, most)) there
]

still_in : {A : Type 0} (xs : List A) (i : ℕ) (x y : A) → IsIn xs y → IsIn (take i xs ++ x ∷ drop i xs) y
still_in xs i x y at = elim (IsIn-append_cases (take i xs) (drop i xs) y (subst (λ zs. IsIn zs y) (sym (take-append-drop i xs)) at)) [
  | inl t ↦ IsIn-append_left (take i xs) (x ∷ drop i xs) y t
  | inr t ↦ IsIn-append_right (take i xs) (x ∷ drop i xs) y (IsIn-later x y (drop i xs) t)
]

-- ---- rows

module _ (ms : List Met) (rows : List FirstRow) (are : AreFirst ms rows) (met : Met) where
  new : FirstRow
  new = record { row = met.row; node = met.node }

  module _ (place : ℕ) (within : place ≤ length rows) (front : (i : ℕ) (x : FirstRow) → i < place → slice_get rows i ≡ Some x → IsTrue (earlier x.row met.row))
      (back : (x : FirstRow) → slice_get rows place ≡ Some x → earlier met.row x.row ≡ true) where
    later : (i : ℕ) (x : FirstRow) → place ≤ i → slice_get rows i ≡ Some x → earlier met.row x.row ≡ true
    later i x past at = elim (cases_lt place i) [
      | inl t ↦
          let first = there_is place (omega (arith, t, slice_get_within rows i x at)) in
          earlier_trans met.row first.0.row x.row (back first.0 first.1) (are.order place i first.0 x t first.1 at)
      | inr t ↦ let same : place ≡ i = omega (arith, past, t) in back x (ap (slice_get rows) same ∙ at)
    ]
      where
        there_is : (k : ℕ) → k < length rows → (y : FirstRow) × (slice_get rows k ≡ Some y)
        there_is k inside = slice_get_inside rows k inside

    other : (i : ℕ) (x : FirstRow) → slice_get rows i ≡ Some x → met.row ≡ x.row → ⊥
    other i x at same = elim (cases_lt i place) [
      | inl t ↦ earlier_apart x.row met.row (front i x t at) (sym same)
      | inr t ↦ earlier_apart met.row x.row (later i x t at) same
    ]

    more : List FirstRow
    more = take place rows ++ new ∷ drop place rows

    sound : (x : FirstRow) → IsIn more x → (m : Met) × IsIn (ms ++ met ∷ []) m × (m.row ≡ x.row) × (m.node ≡ x.node)
    unfolding more new
    sound x (j, at) = elim (inserted rows place new j x within at) [
      | before less there ↦ let m = are.sound x (j, there) in (m.0, IsIn-append_left ms (met ∷ []) m.0 m.1, m.2, m.3)
      | here same is ↦ (met, IsIn-push ms met, ap (λ (y : FirstRow). y.row) is, ap (λ (y : FirstRow). y.node) is)
      | behind k same most there ↦ let m = are.sound x (k, there) in (m.0, IsIn-append_left ms (met ∷ []) m.0 m.1, m.2, m.3)
    ]

    least_old : (i : ℕ) (x : FirstRow) (m : Met) → slice_get rows i ≡ Some x → IsIn (ms ++ met ∷ []) m → m.row ≡ x.row → x.node ≤ m.node
    least_old i x m at in_more same = elim (IsIn-push_cases ms met m in_more) [
      | inl t ↦ are.least x m (i, at) t same
      | inr t ↦ absurd (other i x at (ap (λ (n : Met). n.row) t ∙ same))
    ]

    least_new : (x : FirstRow) (m : Met) → new ≡ x → IsIn (ms ++ met ∷ []) m → m.row ≡ x.row → x.node ≤ m.node
    unfolding new
    least_new x m is in_more same = elim (IsIn-push_cases ms met m in_more) [
      | inl t ↦ let known = are.all m t in absurd (other known.1.0 known.0 known.1.1 (ap (λ (y : FirstRow). y.row) is ∙ sym same ∙ sym known.2))
      | inr t ↦ omega (arith, ap (λ (n : Met). n.node) t, ap (λ (y : FirstRow). y.node) is)
    ]

    least : (x : FirstRow) (m : Met) → IsIn more x → IsIn (ms ++ met ∷ []) m → m.row ≡ x.row → x.node ≤ m.node
    unfolding more
    least x m (j, at) in_more same = elim (inserted rows place new j x within at) [
      | before less there ↦ least_old j x m there in_more same
      | here at_place is ↦ least_new x m is in_more same
      | behind k next most there ↦ least_old k x m there in_more same
    ]

    all : (m : Met) → IsIn (ms ++ met ∷ []) m → (x : FirstRow) × IsIn more x × (x.row ≡ m.row)
    unfolding more new
    all m at = elim (IsIn-push_cases ms met m at) [
      | inl t ↦ let x = are.all m t in (x.0, still_in rows place new x.0 x.1, x.2)
      | inr t ↦ (new, IsIn-append_right (take place rows) (new ∷ drop place rows) new (0, refl), ap (λ (n : Met). n.row) t)
    ]

    order : (i j : ℕ) (x y : FirstRow) → i < j → slice_get more i ≡ Some x → slice_get more j ≡ Some y → IsTrue (earlier x.row y.row)
    unfolding more new
    order i j x y less at_x at_y = elim (inserted rows place new i x within at_x) [
      | before less_x there_x ↦ elim (inserted rows place new j y within at_y) [
        | before less_y there_y ↦ are.order i j x y less there_x there_y
        | here same is ↦ subst (λ (z : FirstRow). earlier x.row z.row ≡ true) is (front i x less_x there_x)
        | behind k next most there_y ↦ earlier_trans x.row met.row y.row (front i x less_x there_x) (later k y most there_y)
      ]
      | here same is ↦ elim (inserted rows place new j y within at_y) [
        | before less_y there_y ↦ absurd (omega (arith, less, same, less_y))
        | here same_too is_too ↦ absurd (omega (arith, less, same, same_too))
        | behind k next most there_y ↦ subst (λ (z : FirstRow). earlier z.row y.row ≡ true) is (later k y most there_y)
      ]
      | behind k next most there_x ↦ elim (inserted rows place new j y within at_y) [
        | before less_y there_y ↦ absurd (omega (arith, less, next, most, less_y))
        | here same is ↦ absurd (omega (arith, less, next, most, same))
        | behind l next_too most_too there_y ↦ are.order k l x y (omega (arith, less, next, next_too)) there_x there_y
      ]
    ]

    pub first_inserted : AreFirst (ms ++ met ∷ []) (take place rows ++ record { row = met.row; node = met.node } ∷ drop place rows)
    unfolding more new
    first_inserted = record { sound = sound; least = least; all = all; order = order }

  module _ (place : ℕ) (x : FirstRow) (at : slice_get rows place ≡ Some x) (same : x.row ≡ met.row) (n : ℕ) (is_least : n ≡ min x.node met.node) where
    lowered : FirstRow
    lowered = record { row = x.row; node = n }

    low : (n ≤ x.node) × (n ≤ met.node)
    low = (omega (arith, is_least), omega (arith, is_least))

    rows_then : List FirstRow
    rows_then = set rows place lowered

    sound_then : (y : FirstRow) → IsIn rows_then y → (m : Met) × IsIn (ms ++ met ∷ []) m × (m.row ≡ y.row) × (m.node ≡ y.node)
    unfolding rows_then lowered
    sound_then y (j, in_set) = elim (item_set rows place lowered j y in_set) [
      | replaced on is ↦ elim (cases_lt x.node met.node) [
        | inl t ↦
            let m = are.sound x (place, at) in
            let node : x.node ≡ y.node = omega (arith, is_least, t, ap (λ (z : FirstRow). z.node) is) in
            (m.0, IsIn-append_left ms (met ∷ []) m.0 m.1, m.2 ∙ ap (λ (z : FirstRow). z.row) is, m.3 ∙ node)
        | inr t ↦
            let node : met.node ≡ y.node = omega (arith, is_least, t, ap (λ (z : FirstRow). z.node) is) in
            (met, IsIn-push ms met, sym same ∙ ap (λ (z : FirstRow). z.row) is, node)
      ]
      | kept off there_y ↦ let m = are.sound y (j, there_y) in (m.0, IsIn-append_left ms (met ∷ []) m.0 m.1, m.2, m.3)
    ]

    -- another row stands at any other place
    row_elsewhere : (j : ℕ) (y : FirstRow) → (j ≡ place → ⊥) → slice_get rows j ≡ Some y → met.row ≡ y.row → ⊥
    row_elsewhere j y off there_y is = elim (cases_lt j place) [
      | inl t ↦ earlier_apart y.row x.row (are.order j place y x t there_y at) (sym is ∙ sym same)
      | inr t ↦ earlier_apart x.row y.row (are.order place j x y (omega (arith, t, off_lt off t)) at there_y) (same ∙ is)
    ]
      where
        off_lt : (j ≡ place → ⊥) → place ≤ j → place < j
        off_lt unlike most = elim (cases_order place j) [
          | inl e ↦ absurd (unlike (sym e))
          | inr rest ↦ elim rest [
            | inl lt ↦ lt
            | inr gt ↦ absurd (omega (arith, most, gt))
          ]
        ]

    least_then : (y : FirstRow) (m : Met) → IsIn rows_then y → IsIn (ms ++ met ∷ []) m → m.row ≡ y.row → y.node ≤ m.node
    unfolding rows_then lowered
    least_then y m (j, in_set) in_more row = elim (item_set rows place lowered j y in_set) [
      | replaced on is ↦ elim (IsIn-push_cases ms met m in_more) [
        | inl t ↦
            let le = are.least x m (place, at) t (row ∙ sym (ap (λ (z : FirstRow). z.row) is)) in
            omega (arith, low.0, le, ap (λ (z : FirstRow). z.node) is)
        | inr t ↦ omega (arith, low.1, ap (λ (k : Met). k.node) t, ap (λ (z : FirstRow). z.node) is)
      ]
      | kept off there_y ↦ elim (IsIn-push_cases ms met m in_more) [
        | inl t ↦ are.least y m (j, there_y) t row
        | inr t ↦ absurd (row_elsewhere j y off there_y (ap (λ (k : Met). k.row) t ∙ row))
      ]
    ]

    there_then : (j : ℕ) (y : FirstRow) → slice_get rows j ≡ Some y → (z : FirstRow) × IsIn rows_then z × (z.row ≡ y.row)
    unfolding rows_then lowered
    there_then j y there_y = elim (cases_eq j place) [
      | inl e ↦
          let is : x ≡ y = same_Some x y (sym at ∙ ap (slice_get rows) (sym e) ∙ there_y) in
          (lowered, (place, set_there rows place lowered x at), ap (λ (z : FirstRow). z.row) is)
      | inr off ↦ (y, (j, set_elsewhere rows place lowered j y off there_y), refl)
    ]

    all_then : (m : Met) → IsIn (ms ++ met ∷ []) m → (z : FirstRow) × IsIn rows_then z × (z.row ≡ m.row)
    all_then m in_more = elim (IsIn-push_cases ms met m in_more) [
      | inl t ↦ let y = are.all m t in let z = there_then y.1.0 y.0 y.1.1 in (z.0, z.1, z.2 ∙ y.2)
      | inr t ↦ let z = there_then place x at in (z.0, z.1, z.2 ∙ same ∙ ap (λ (k : Met). k.row) t)
    ]

    -- the row that stood at the place before
    row_before : (j : ℕ) (y : FirstRow) → slice_get rows_then j ≡ Some y → (z : FirstRow) × (slice_get rows j ≡ Some z) × (z.row ≡ y.row)
    unfolding rows_then lowered
    row_before j y in_set = elim (item_set rows place lowered j y in_set) [
      | replaced on is ↦ (x, ap (slice_get rows) on ∙ at, ap (λ (z : FirstRow). z.row) is)
      | kept off there_y ↦ (y, there_y, refl)
    ]

    order_then : (i j : ℕ) (y z : FirstRow) → i < j → slice_get rows_then i ≡ Some y → slice_get rows_then j ≡ Some z → IsTrue (earlier y.row z.row)
    order_then i j y z less at_y at_z =
        let one = row_before i y at_y in
        let two = row_before j z at_z in
        subst₂ (λ (a b : Row). earlier a b ≡ true) one.2 two.2 (are.order i j one.0 two.0 less one.1 two.1)

    pub first_lowered : AreFirst (ms ++ met ∷ []) (set rows place (record { row = x.row; node = n }))
    unfolding rows_then lowered
    first_lowered = record { sound = sound_then; least = least_then; all = all_then; order = order_then }

pub first_none : AreFirst [] []
first_none = record {
  sound = λ x at. absurd (nothing at);
  least = λ x m at. absurd (nothing at);
  all = λ m at. absurd (nothing_met at);
  order = λ i j x y less at. absurd (nothing (i, at));
}
  where
    nothing : {x : FirstRow} → IsIn [] x → ⊥
    nothing (i, at) = cc

    nothing_met : {m : Met} → IsIn [] m → ⊥
    nothing_met (i, at) = cc
