-- A row that is written, among the others.
use Rattle.std.proofs.Common.{◌≡◌, ◌≢◌, ℕ, ◌+◌, ◌*◌, ◌-◌, ◌<◌, ◌≤◌, false, cond, eqb, List, length, take, drop, arith, refl, sym, ap, ◌∙◌, inl, inr, length-drop}
use Rattle.std.proofs.lemmas.Bool.{cases_order, cases_eq, cases_Bool, cond-true, cond-false, eq-eqb, ne_eqb}
use Rattle.std.proofs.lemmas.List.{length-take}
use Rattle.std.proofs.lemmas.List.Edits.{length-paste}
use Rattle.std.proofs.lemmas.Nat.{row_fits}
use Rattle.std.proofs.lemmas.Slice.{between-put_mid, between_is, take-put_mid_below, drop-put_mid, put_mid-paste}
use borrow.Rule.Slice.PartMut.{put_mid}
use Rattle.bit_rows.specs.Bits.{has}
use Rattle.bit_rows.specs.Tables.{IsTable, PlainRows, has_at, row_of}

pub length-put_mid : (a k : ℕ) (xs ys : List ℕ) → a + k ≤ length xs → length ys ≡ k → length (put_mid a k xs ys) ≡ length xs
length-put_mid a k xs ys le len = ap length (put_mid-paste a k xs ys ys k refl refl (sym len)) ∙ length-paste xs a ys k le (omega (arith, len))

-- a row ends within the table
pub row_ends : (r : PlainRows) (row : ℕ) → IsTable r → row < r.count → row * r.width + r.width ≤ length r.words
row_ends r row table lt = let fits : row * r.width + r.width ≤ r.count * r.width = row_fits row r.width r.count r.width lt (omega arith) in omega (arith, table.size)

-- a row has as many words as the table says
pub row_wide : (r : PlainRows) (row : ℕ) → IsTable r → row < r.count → length (row_of r row) ≡ r.width
row_wide r row table lt = let ends = row_ends r row table lt in omega (arith, length-take r.width (drop (row * r.width) r.words), length-drop (row * r.width) r.words, ends)

-- a part of the words that is a row
pub row_part : (r : PlainRows) (row : ℕ) (words : List ℕ) → words ≡ r.words → take ((row * r.width + r.width) - row * r.width) (drop (row * r.width) words) ≡ row_of r row
row_part r row words same = let e : (row * r.width + r.width) - row * r.width ≡ r.width = omega arith in
    ap (λ w. take w (drop (row * r.width) words)) e ∙ ap (λ l. take r.width (drop (row * r.width) l)) same

-- the table with other words
abbrev pub with_words : PlainRows → List ℕ → PlainRows
with_words r words = record { count = r.count; bits = r.bits; width = r.width; words = words }

module _ (r : PlainRows) (row : ℕ) (table : IsTable r) (lt : row < r.count) (words part ys : List ℕ) (same : part ≡ r.words) (k : ℕ)
    (wide : k ≡ r.width) (len : length ys ≡ r.width) (cut : words ≡ put_mid (row * r.width) k part ys) where
  is : words ≡ put_mid (row * r.width) k r.words ys
  is = cut ∙ ap (λ l. put_mid (row * r.width) k l ys) same

  ends : row * r.width + r.width ≤ length r.words
  ends = row_ends r row table lt

  pub put_here : take r.width (drop (row * r.width) words) ≡ ys
  put_here =
      let e : (row * r.width + r.width) - row * r.width ≡ r.width = omega arith in
      ap (λ w. take w (drop (row * r.width) words)) (sym e) ∙ ap (λ l. take ((row * r.width + r.width) - row * r.width) (drop (row * r.width) l)) is
      ∙ between-put_mid (row * r.width) k r.words ys (row * r.width + r.width) (omega (arith, ends)) (len ∙ sym e)

  pub put_other : (other : ℕ) → other ≢ row → take r.width (drop (other * r.width) words) ≡ row_of r other
  put_other other apart = ap (λ l. take r.width (drop (other * r.width) l)) is ∙ elim (cases_order other row) [
    | inl same ↦ absurd (apart same)
    | inr o ↦ elim o [
      | inl less ↦ (
          let before : other * r.width + r.width ≤ row * r.width = row_fits other r.width row r.width less (omega arith) in
          let e : (other * r.width + r.width) - other * r.width ≡ r.width = omega arith in
          ap (λ w. take w (drop (other * r.width) (put_mid (row * r.width) k r.words ys))) (sym e) ∙ between_is (put_mid (row * r.width) k r.words ys) (other * r.width) (other * r.width + r.width)
          ∙ ap (drop (other * r.width)) (take-put_mid_below (row * r.width) k r.words ys (other * r.width + r.width) before (omega (arith, ends)))
          ∙ sym (between_is r.words (other * r.width) (other * r.width + r.width)) ∙ ap (λ w. take w (drop (other * r.width) r.words)) e)
      | inr more ↦ (
          let after : row * r.width + r.width ≤ other * r.width = row_fits row r.width other r.width more (omega arith) in
          ap (take r.width) (drop-put_mid (row * r.width) k r.words ys (other * r.width) (omega (arith, after, wide)) (omega (arith, ends)) (len ∙ sym wide)))
    ]
  ]

  pub put_bits : (other b : ℕ) → has_at (with_words r words) other b ≡ cond (eqb other row) (has ys b) (has_at r other b)
  put_bits other b = elim (cases_eq other row) [
    | inl e ↦ ap (λ k. has_at (with_words r words) k b) e ∙ ap (λ l. has l b) put_here ∙ sym (cond-true (eqb other row) (has ys b) (has_at r other b) (eq-eqb _ _ e))
    | inr n ↦ ap (λ l. has l b) (put_other other n) ∙ sym (cond-false (eqb other row) (has ys b) (has_at r other b) (ne_eqb _ _ n))
  ]

  pub put_table : ((b : ℕ) → r.bits ≤ b → has ys b ≡ false) → IsTable (with_words r words)
  put_table clear = record {
    size = ap length is ∙ length-put_mid (row * r.width) k r.words ys (omega (arith, ends, wide)) (len ∙ sym wide) ∙ table.size;
    few = table.few;
    room = table.room;
    tight = table.tight;
    clear = λ other b lo le. put_bits other b ∙ elim (cases_Bool (eqb other row)) [
      | inl e ↦ cond-true (eqb other row) (has ys b) (has_at r other b) e ∙ clear b le
      | inr e ↦ cond-false (eqb other row) (has ys b) (has_at r other b) e ∙ table.clear other b lo le
    ];
  }
