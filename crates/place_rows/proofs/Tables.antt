-- The rows of places, where a place is added and where its rows are written.
use Rattle.std.proofs.Common.{◌≡◌, ◌≢◌, ℕ, zero, suc, ◌+◌, ◌<◌, ◌≤◌, Bool, true, false, List, [], ◌∷◌, ◌++◌, Vec, length, set, refl, sym, ap, ◌∙◌, arith, inl, inr, Some, None}
use Rattle.std.specs.Prelude.{nat_lt, slice_get, if◌then◌else◌}
use Rattle.std.specs.Global.{Global}
use Rattle.std.specs.List.{list_any, position, position_or_len}
use Rattle.std.proofs.lemmas.Bool.{cases_Bool, or_parts, true≢false}
use Rattle.std.proofs.lemmas.Option.{cond_some, same_Some}
use Rattle.list_law.proofs.Positions.{list_any-no_position, position_or_len-first, position_or_len-next, position_or_len-there}
use Rattle.list_law.proofs.Truth.{either_way}
use Rattle.compare_base.specs.declared.rows.Place.{Place}
use Rattle.compare_base.specs.Same.{same_place}
use Rattle.pair_rows.specs.declared.values.FirstRow.{FirstRow}
use Rattle.pair_rows.proofs.RowsMet.{place_is, place_same}
use Rattle.place_rows.specs.Noted.{rows_at, rows_for}

-- ---- rows by number

-- the rows of a number are those that stand there
pub at_read : (rows : List (Vec FirstRow Global)) (v : Vec FirstRow Global) (n : ℕ) → slice_get rows n ≡ Some v → v.items ≡ rows_at rows n
at_read [] v n there = absurd cc
at_read (r ∷ rows) v zero there = ap (λ (u : Vec FirstRow Global). u.items) (sym (same_Some r v there))
at_read (r ∷ rows) v (suc n) there = at_read rows v n there

-- behind all there are none
pub at_beyond : (rows : List (Vec FirstRow Global)) (n : ℕ) → length rows ≤ n → rows_at rows n ≡ []
at_beyond [] n beyond = refl
at_beyond (r ∷ rows) zero beyond = absurd (omega (arith, beyond))
at_beyond (r ∷ rows) (suc n) beyond = at_beyond rows n (omega (arith, beyond))

-- once they are written, those of the other numbers are as before
pub at_set : (rows : List (Vec FirstRow Global)) (w : Vec FirstRow Global) (n : ℕ) → n < length rows → rows_at (set rows n w) n ≡ w.items
at_set [] w n within = absurd (omega (arith, within))
at_set (r ∷ rows) w zero within = refl
at_set (r ∷ rows) w (suc n) within = at_set rows w n (omega (arith, within))

pub at_kept : (rows : List (Vec FirstRow Global)) (w : Vec FirstRow Global) (n r : ℕ) → n ≢ r → rows_at (set rows n w) r ≡ rows_at rows r
at_kept [] w n r apart = refl
at_kept (first ∷ rows) w zero zero apart = absurd (apart refl)
at_kept (first ∷ rows) w zero (suc r) apart = refl
at_kept (first ∷ rows) w (suc n) zero apart = refl
at_kept (first ∷ rows) w (suc n) (suc r) apart = at_kept rows w n r (λ is. apart (ap suc is))

-- one more without rows
pub at_pushed : (rows : List (Vec FirstRow Global)) (w : Vec FirstRow Global) (r : ℕ) → w.items ≡ [] → rows_at rows r ≡ [] → rows_at (rows ++ w ∷ []) r ≡ []
at_pushed [] w zero none was = none
at_pushed [] w (suc r) none was = refl
at_pushed (first ∷ rows) w zero none was = was
at_pushed (first ∷ rows) w (suc r) none was = at_pushed rows w r none was

-- ---- rows of places

-- a place that is added with no rows changes no rows
pub rows_pushed : (keys : List Place) (rows : List (Vec FirstRow Global)) (k : Place) (w : Vec FirstRow Global) (q : Place) → length keys ≡ length rows → w.items ≡ []
    → rows_for (keys ++ k ∷ []) (rows ++ w ∷ []) q ≡ rows_for keys rows q
rows_pushed [] [] k w q size none = either_way (same_place q k) w.items [] [] none refl
rows_pushed [] (r ∷ rows) k w q size none = absurd (omega (arith, size))
rows_pushed (a ∷ keys) [] k w q size none = absurd (omega (arith, size))
rows_pushed (a ∷ keys) (r ∷ rows) k w q size none =
    ap (λ (rest : List FirstRow). if same_place q a then r.items else rest) (rows_pushed keys rows k w q (omega (arith, size)) none)

module _ (place : Place) where
  first_is : (k : Place) (keys : List Place) → same_place place k ≡ true → position_or_len (same_place place) (k ∷ keys) ≡ 0
  first_is k keys t = position_or_len-first (same_place place) k keys t

  next_is : (k : Place) (keys : List Place) → same_place place k ≡ false → position_or_len (same_place place) (k ∷ keys) ≡ 1 + position_or_len (same_place place) keys
  next_is k keys t = position_or_len-next (same_place place) k keys t

  -- the rows of a place are those with its number
  pub rows_read : (keys : List Place) (rows : List (Vec FirstRow Global)) (v : Vec FirstRow Global) (n : ℕ) → length keys ≡ length rows
      → n ≡ position_or_len (same_place place) keys → slice_get rows n ≡ Some v → v.items ≡ rows_for keys rows place
  rows_read keys [] v n size at there = absurd cc
  rows_read [] (r ∷ rows) v n size at there = absurd (omega (arith, size))
  rows_read (k ∷ keys) (r ∷ rows) v n size at there = elim (cases_Bool (same_place place k)) [
    | inl t ↦
        let here : slice_get (r ∷ rows) 0 ≡ Some v = ap (slice_get (r ∷ rows)) (sym (first_is k keys t) ∙ sym at) ∙ there in
        ap (λ (u : Vec FirstRow Global). u.items) (sym (same_Some r v here)) ∙ sym (ap (λ b. if b then r.items else rows_for keys rows place) t)
    | inr t ↦
        let next : suc (position_or_len (same_place place) keys) ≡ n = omega (arith, at, next_is k keys t) in
        let behind : slice_get rows (position_or_len (same_place place) keys) ≡ Some v = ap (slice_get (r ∷ rows)) next ∙ there in
        rows_read keys rows v (position_or_len (same_place place) keys) (omega (arith, size)) refl behind ∙ sym (ap (λ b. if b then r.items else rows_for keys rows place) t)
  ]

  -- and once they are written, those of the other places are as before
  pub rows_set : (keys : List Place) (rows : List (Vec FirstRow Global)) (w : Vec FirstRow Global) (n : ℕ) (q : Place) → length keys ≡ length rows
      → n ≡ position_or_len (same_place place) keys → n < length rows
      → rows_for keys (set rows n w) q ≡ (if same_place q place then w.items else rows_for keys rows q)
  rows_set keys [] w n q size at within = absurd (omega (arith, within))
  rows_set [] (r ∷ rows) w n q size at within = absurd (omega (arith, size))
  rows_set (k ∷ keys) (r ∷ rows) w n q size at within = elim (cases_Bool (same_place place k)) [
    | inl t ↦
        let same : k ≡ place = sym (place_is place k t) in
        ap (λ m. rows_for (k ∷ keys) (set (r ∷ rows) m w) q) (at ∙ first_is k keys t)
        ∙ ap (λ (a : Place). if same_place q a then w.items else rows_for keys rows q) same ∙ here (same_place q place) (same_place q k) (ap (same_place q) same)
    | inr t ↦
        let m = position_or_len (same_place place) keys in
        let next : n ≡ suc m = omega (arith, at, next_is k keys t) in
        ap (λ l. rows_for (k ∷ keys) (set (r ∷ rows) l w) q) next
        ∙ ap (λ (rest : List FirstRow). if same_place q k then r.items else rest) (rows_set keys rows w m q (omega (arith, size)) refl (omega (arith, within, at, next_is k keys t)))
        ∙ either (same_place q k) (same_place q place) (λ u v. true≢false (sym (place_same place k (sym (place_is q place v) ∙ place_is q k u)) ∙ t))
  ]
    where
      here : (x y : Bool) → y ≡ x → (if x then w.items else rows_for keys rows q) ≡ (if x then w.items else if y then r.items else rows_for keys rows q)
      here true y is = refl
      here false y is = sym (ap (λ b. if b then r.items else rows_for keys rows q) is)

      either : (x y : Bool) → (x ≡ true → y ≡ true → ⊥)
          → (if x then r.items else if y then w.items else rows_for keys rows q) ≡ (if y then w.items else if x then r.items else rows_for keys rows q)
      either true true apart = absurd (apart refl refl)
      either true false apart = refl
      either false y apart = refl

-- a place that isn't there has no rows
pub rows_absent : (place : Place) (keys : List Place) (rows : List (Vec FirstRow Global)) → list_any (same_place place) keys ≡ false → [] ≡ rows_for keys rows place
rows_absent place [] rows off = refl
rows_absent place (k ∷ keys) [] off = refl
rows_absent place (k ∷ keys) (r ∷ rows) off =
    let parts = or_parts (same_place place k) (list_any (same_place place) keys) off in
    rows_absent place keys rows parts.1 ∙ sym (ap (λ b. if b then r.items else rows_for keys rows place) parts.0)

-- ---- the number of a place

pub number_found : (place : Place) (keys : List Place) (n : ℕ) → position (same_place place) keys ≡ Some n → n ≡ position_or_len (same_place place) keys
number_found place keys n is = let p = same_place place in sym (cond_some (nat_lt (position_or_len p keys) (length keys)) (position_or_len p keys) n is).1

module _ (place : Place) (keys after : List Place) (absent : position (same_place place) keys ≡ None)
    (grown : after ≡ (if list_any (same_place place) keys then keys else keys ++ place ∷ [])) where
  pub keys_grown : after ≡ keys ++ place ∷ []
  keys_grown = grown ∙ ap (λ (b : Bool). if b then keys else keys ++ place ∷ []) (list_any-no_position (same_place place) keys absent)

  pub number_grown : (n : ℕ) → n ≡ length keys → n ≡ position_or_len (same_place place) after
  number_grown n is =
      is
      ∙ sym (ap (position_or_len (same_place place)) keys_grown
      ∙ position_or_len-there (same_place place) keys place [] (list_any-no_position (same_place place) keys absent) (place_same place place refl))
