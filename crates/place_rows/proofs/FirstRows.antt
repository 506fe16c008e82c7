-- A row that is met is put to the rows of its place.
use Rattle.std.proofs.Common.{◌≡◌, ℕ, zero, suc, ◌<◌, ◌≤◌, Bool, true, false, List, [], ◌∷◌, ◌++◌, drop, length, min, set, take, refl, sym, ap, ◌∙◌, subst, arith, inl, inr, Option, Some, None, cond, ltb-false}
use Rattle.std.specs.Prelude.{nat_lt, not, slice_get}
use Rattle.std.specs.List.{position, position_or_len}
use Rattle.std.specs.Option.{option_map_or, unwrap_or}
use Rattle.std.proofs.lemmas.Bool.{cases_Bool, false≢true, not-false, not-true}
use Rattle.std.proofs.lemmas.List.Sums.{prefix_len-le-length}
use Rattle.std.proofs.lemmas.Option.{same_Some}
use Rattle.list_law.proofs.Positions.{position_or_len-first, position_or_len-next}
use Rattle.compare_base.specs.declared.rows.Row.{Row}
use Rattle.compare_base.specs.Same.{same_row}
use Rattle.pair_rows.specs.declared.values.FirstRow.{FirstRow}
use Rattle.pair_rows.specs.declared.values.Met.{Met}
use Rattle.pair_rows.specs.Meetings.{AreFirst, earlier}
use Rattle.pair_rows.proofs.NotedRows.{first_inserted, first_lowered}
use Rattle.place_rows.proofs.Order.{later, row_is}

-- ---- the first item that passes a test

before_position : {A : Type 0} (p : A → Bool) (xs : List A) (i : ℕ) (x : A) → i < position_or_len p xs → slice_get xs i ≡ Some x → p x ≡ false
before_position p [] i x less at = absurd cc
before_position p (y ∷ ys) zero x less at = elim (cases_Bool (p y)) [
  | inl t ↦ absurd (omega (arith, less, position_or_len-first p y ys t))
  | inr t ↦ ap p (sym (same_Some y x at)) ∙ t
]
before_position p (y ∷ ys) (suc i) x less at = elim (cases_Bool (p y)) [
  | inl t ↦ absurd (omega (arith, less, position_or_len-first p y ys t))
  | inr t ↦ before_position p ys i x (omega (arith, less, position_or_len-next p y ys t)) at
]

at_position : {A : Type 0} (p : A → Bool) (xs : List A) (i : ℕ) (x : A) → i ≡ position_or_len p xs → slice_get xs i ≡ Some x → p x ≡ true
at_position p [] i x is at = absurd cc
at_position p (y ∷ ys) i x is at = elim (cases_Bool (p y)) [
  | inl t ↦ let here : slice_get (y ∷ ys) 0 ≡ Some x = ap (slice_get (y ∷ ys)) (sym (is ∙ position_or_len-first p y ys t)) ∙ at in ap p (sym (same_Some y x here)) ∙ t
  | inr t ↦
      let next : i ≡ suc (position_or_len p ys) = omega (arith, is, position_or_len-next p y ys t) in
      let behind : slice_get ys (position_or_len p ys) ≡ Some x = ap (λ (k : ℕ). slice_get (y ∷ ys) k) (sym next) ∙ at in
      at_position p ys (position_or_len p ys) x refl behind
]

pub position_within : {A : Type 0} (p : A → Bool) (xs : List A) → position_or_len p xs ≤ length xs
position_within {A = A} p xs = prefix_len-le-length (λ (x : A). not (p x)) xs

-- the place of the first such item, or that behind all
pub position_or_behind : {A : Type 0} (p : A → Bool) (xs : List A) → unwrap_or (position p xs) (length xs) ≡ position_or_len p xs
position_or_behind p xs =
    let n = position_or_len p xs in
    elim (cases_Bool (nat_lt n (length xs))) [
      | inl t ↦ ap (λ b. unwrap_or (cond b (Some n) None) (length xs)) t
      | inr t ↦
          let same : length xs ≡ n = omega (arith, ltb-false n (length xs) t, position_within p xs) in
          ap (λ b. unwrap_or (cond b (Some n) None) (length xs)) t ∙ same
    ]

-- ---- rows

abbrev pub is_placed : Row → FirstRow → Bool
is_placed row x = not (earlier x.row row)

module _ (mets : List Met) (rows : List FirstRow) (first : AreFirst mets rows) (met : Met) (place : ℕ) (is : place ≡ position_or_len (is_placed met.row) rows) where
  before : (i : ℕ) (x : FirstRow) → i < place → slice_get rows i ≡ Some x → earlier x.row met.row ≡ true
  before i x less at = not-false (earlier x.row met.row) (before_position (is_placed met.row) rows i x (omega (arith, less, is)) at)

  there : (x : FirstRow) → slice_get rows place ≡ Some x → earlier x.row met.row ≡ false
  there x at = not-true (earlier x.row met.row) (at_position (is_placed met.row) rows place x is at)

  -- a row that isn't there yet
  pub note_new : place ≤ length rows → ((x : FirstRow) → slice_get rows place ≡ Some x → same_row x.row met.row ≡ false)
      → AreFirst (mets ++ met ∷ []) (take place rows ++ record { row = met.row; node = met.node } ∷ drop place rows)
  note_new within apart = first_inserted mets rows first met place within before (λ x at. later x.row met.row (there x at) (apart x at))

  -- and one that is there
  pub note_known : (x : FirstRow) → slice_get rows place ≡ Some x → same_row x.row met.row ≡ true
      → AreFirst (mets ++ met ∷ []) (set rows place (record { row = x.row; node = min x.node met.node }))
  note_known x at same = first_lowered mets rows first met place x at (row_is x.row met.row same) (min x.node met.node) refl

-- ---- where a row stands

abbrev pub stands_at : List FirstRow → ℕ → Row → Bool
stands_at rows place row = option_map_or (λ (x : FirstRow). same_row x.row row) (slice_get rows place) false

at_parts : (o : Option FirstRow) (row : Row) → option_map_or (λ (x : FirstRow). same_row x.row row) o false ≡ true → (x : FirstRow) × (o ≡ Some x) × (same_row x.row row ≡ true)
at_parts (Some x) row on = (x, refl, on)
at_parts None row on = absurd (false≢true on)

module _ (mets : List Met) (rows : List FirstRow) (first : AreFirst mets rows) (met : Met) (place : ℕ) (is : place ≡ position_or_len (is_placed met.row) rows) (after : List FirstRow) where
  pub noted_known : stands_at rows place met.row ≡ true
      → ((x : FirstRow) → slice_get rows place ≡ Some x → after ≡ set rows place (record { row = x.row; node = min x.node met.node })) → AreFirst (mets ++ met ∷ []) after
  noted_known on written =
      let x = at_parts (slice_get rows place) met.row on in
      subst (λ (xs : List FirstRow). AreFirst (mets ++ met ∷ []) xs) (sym (written x.0 x.1)) (note_known mets rows first met place is x.0 x.1 x.2)

  pub noted_new : stands_at rows place met.row ≡ false → after ≡ take place rows ++ record { row = met.row; node = met.node } ∷ drop place rows → AreFirst (mets ++ met ∷ []) after
  noted_new off written =
      let within : place ≤ length rows = omega (arith, is, position_within (is_placed met.row) rows) in
      subst (λ (xs : List FirstRow). AreFirst (mets ++ met ∷ []) xs) (sym written)
      (note_new mets rows first met place is within
      (λ x at. ap (λ (o : Option FirstRow). option_map_or (λ (y : FirstRow). same_row y.row met.row) o false) (sym at) ∙ off))
