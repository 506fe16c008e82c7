-- A row to which another row of its table is added.
use Rattle.std.proofs.Common.{◌≡◌, ◌≢◌, ◌⊎◌, ℕ, ◌+◌, ◌*◌, ◌<◌, ◌≤◌, ◌&&◌, ◌||◌, eqb, List, length, get_or, take, drop, set, get_or-set_same, get_or-set_other, arith, sym, ap, ◌∙◌, inl, inr}
use Rattle.std.specs.Prelude.{bit_or, ◌/◌, ◌%◌}
use Rattle.std.specs.Int.{bit_at}
use Rattle.std.proofs.lemmas.Bool.{cases_order, cases_eq, cases_lt, eq-eqb, ne_eqb}
use Rattle.std.proofs.lemmas.List.{get_or-take, get_or-drop, get_or_past, length-take}
use Rattle.std.proofs.lemmas.Nat.{row_fits}
use Rattle.std.proofs.Math.Bool.{or-false, and-false}
use native.Mathlib.Nat.{mul-le-mul_right}
use Rattle.bit_rows.specs.Bits.{has}
use Rattle.bit_rows.specs.Tables.{IsTable, PlainRows, has_at, row_of}
use Rattle.bit_rows.proofs.Words.{has_or}
use Rattle.bit_rows.proofs.Tables.{with_words}

cell_in : (width at : ℕ) (words : List ℕ) (j : ℕ) → j < width → get_or (take width (drop at words)) j 0 ≡ get_or words (at + j) 0
cell_in width at words j lt = get_or-take width (drop at words) j 0 lt ∙ get_or-drop at words j 0

cell_past : (width at : ℕ) (words : List ℕ) (j : ℕ) → width ≤ j → get_or (take width (drop at words)) j 0 ≡ 0
cell_past width at words j le = get_or_past (take width (drop at words)) j 0 (omega (arith, length-take width (drop at words)))

same_bits : (one other : List ℕ) (b : ℕ) → ((j : ℕ) → get_or one j 0 ≡ get_or other j 0) → has one b ≡ has other b
same_bits one other b same = ap (λ w. eqb (bit_at w (b % 64)) 1) (same (b / 64))

-- one word more is joined
module _ (old now : List ℕ) (to at width i x y : ℕ) (inside : to + i < length now) (in_row : i < width) (apart : (at + width ≤ to) ⊎ (to ≤ at))
    (is : x ≡ get_or now (to + i) 0) (other : y ≡ get_or now (at + i) 0)
    (done : (j : ℕ) → j < i → get_or now (to + j) 0 ≡ bit_or (get_or old (to + j) 0) (get_or old (at + j) 0)) (rest : (k : ℕ) → (k < to) ⊎ (to + i ≤ k) → get_or now k 0 ≡ get_or old k 0) where
  unread : (at + i < to) ⊎ (to + i ≤ at + i)
  unread = elim apart [ inl before ↦ inl (omega arith) | inr behind ↦ inr (omega arith) ]

  pub joined_more : (j : ℕ) → j < i + 1 → get_or (set now (to + i) (bit_or x y)) (to + j) 0 ≡ bit_or (get_or old (to + j) 0) (get_or old (at + j) 0)
  joined_more j lt = elim (cases_lt j i) [
    | inl before ↦ (let ne : to + j ≢ to + i = omega arith in get_or-set_other now (to + i) (to + j) (bit_or x y) 0 ne ∙ done j before)
    | inr last ↦ (
        let e : j ≡ i = omega arith in
        ap (λ k. get_or (set now (to + i) (bit_or x y)) (to + k) 0) e ∙ get_or-set_same now (to + i) (bit_or x y) 0 inside
        ∙ ap (λ z. bit_or z y) (is ∙ rest (to + i) (inr (omega arith))) ∙ ap (bit_or (get_or old (to + i) 0)) (other ∙ rest (at + i) unread)
        ∙ ap (λ k. bit_or (get_or old (to + k) 0) (get_or old (at + k) 0)) (sym e))
  ]

  pub joined_rest : (k : ℕ) → (k < to) ⊎ (to + (i + 1) ≤ k) → get_or (set now (to + i) (bit_or x y)) k 0 ≡ get_or old k 0
  joined_rest k beside =
      let ne : k ≢ to + i = λ e. elim beside [ inl below ↦ omega arith | inr above ↦ omega arith ] in
      let still : (k < to) ⊎ (to + i ≤ k) = elim beside [ inl below ↦ inl below | inr above ↦ inr (omega arith) ] in
      get_or-set_other now (to + i) k (bit_or x y) 0 ne ∙ rest k still

pub rows_apart : (into from width : ℕ) → (from * width + width ≤ into * width) ⊎ (into * width ≤ from * width)
rows_apart into from width = elim (cases_lt from into) [
  | inl less ↦ inl (row_fits from width into width less (omega arith))
  | inr more ↦ inr (mul-le-mul_right width more)
]

module _ (r : PlainRows) (into from : ℕ) (words : List ℕ) (table : IsTable r)
    (done : (j : ℕ) → j < r.width → get_or words (into * r.width + j) 0 ≡ bit_or (get_or r.words (into * r.width + j) 0) (get_or r.words (from * r.width + j) 0))
    (rest : (k : ℕ) → (k < into * r.width) ⊎ (into * r.width + r.width ≤ k) → get_or words k 0 ≡ get_or r.words k 0) where
  joined_here : (b : ℕ) → has (take r.width (drop (into * r.width) words)) b ≡ (has_at r into b || has_at r from b)
  joined_here b = has_or (row_of r into) (take r.width (drop (into * r.width) words)) (row_of r from) (λ j. elim (cases_lt j r.width) [
    | inl lt ↦
        cell_in r.width (into * r.width) words j lt ∙ done j lt
        ∙ ap (λ z. bit_or z (get_or r.words (from * r.width + j) 0)) (sym (cell_in r.width (into * r.width) r.words j lt))
        ∙ ap (bit_or (get_or (row_of r into) j 0)) (sym (cell_in r.width (from * r.width) r.words j lt))
    | inr past ↦
        cell_past r.width (into * r.width) words j past
        ∙ sym (ap (λ z. bit_or z (get_or (row_of r from) j 0)) (cell_past r.width (into * r.width) r.words j past)
        ∙ ap (bit_or 0) (cell_past r.width (from * r.width) r.words j past))
  ]) b

  joined_there : (row b : ℕ) → row ≢ into → has (take r.width (drop (row * r.width) words)) b ≡ has_at r row b
  joined_there row b apart = same_bits (take r.width (drop (row * r.width) words)) (row_of r row) b (λ j. elim (cases_lt j r.width) [
    | inl lt ↦ cell_in r.width (row * r.width) words j lt ∙ rest (row * r.width + j) (beside j lt) ∙ sym (cell_in r.width (row * r.width) r.words j lt)
    | inr past ↦ cell_past r.width (row * r.width) words j past ∙ sym (cell_past r.width (row * r.width) r.words j past)
  ])
    where
      beside : (j : ℕ) → j < r.width → (row * r.width + j < into * r.width) ⊎ (into * r.width + r.width ≤ row * r.width + j)
      beside j lt = elim (cases_order row into) [
        | inl e ↦ absurd (apart e)
        | inr o ↦ elim o [
          | inl less ↦ (let before : row * r.width + r.width ≤ into * r.width = row_fits row r.width into r.width less (omega arith) in inl (omega arith))
          | inr more ↦ (let after : into * r.width + r.width ≤ row * r.width = row_fits into r.width row r.width more (omega arith) in inr (omega arith))
        ]
      ]

  pub joined_bits : (row b : ℕ) → has_at (with_words r words) row b ≡ (has_at r row b || (eqb row into && has_at r from b))
  joined_bits row b = elim (cases_eq row into) [
    | inl e ↦
        ap (λ k. has (take r.width (drop (k * r.width) words)) b) e ∙ joined_here b ∙ ap (λ k. has_at r k b || has_at r from b) (sym e)
        ∙ sym (ap (λ z. has_at r row b || (z && has_at r from b)) (eq-eqb _ _ e))
    | inr n ↦ joined_there row b n ∙ sym (or-false (has_at r row b)) ∙ sym (ap (λ z. has_at r row b || (z && has_at r from b)) (ne_eqb _ _ n))
  ]

  pub joined_table : length words ≡ length r.words → from < r.count → IsTable (with_words r words)
  joined_table len lf = record {
    size = len ∙ table.size;
    few = table.few;
    room = table.room;
    tight = table.tight;
    clear =
        λ row b lt le. joined_bits row b ∙ ap (λ z. z || (eqb row into && has_at r from b)) (table.clear row b lt le)
        ∙ ap (λ z. eqb row into && z) (table.clear from b lf le) ∙ and-false (eqb row into);
  }
