-- A row that is written in the words of a table, seen from its fields.
use Rattle.std.proofs.Common.{◌≡◌, ℕ, ◌+◌, ◌*◌, ◌-◌, ◌<◌, ◌≤◌, Bool, false, cond, eqb, List, length, take, drop, arith, sym, ap, ◌∙◌, inl, inr}
use Rattle.std.specs.Vec.{with_items}
use Rattle.std.proofs.lemmas.Bool.{cases_eq, cond-true, cond-false, eq-eqb, ne_eqb}
use Rattle.std.proofs.lemmas.List.{with_items_is}
use borrow.Rule.Slice.PartMut.{put_mid}
use Rattle.bit_rows.specs.Bits.{has}
use Rattle.bit_rows.specs.Tables.{IsTable, PlainRows, has_at, row_of}
use Rattle.bit_rows.specs.declared.rows.Rows.TheInside.{Inside}
use Rattle.bit_rows.proofs.Tables.{length-put_mid, put_bits, put_table, row_ends, row_part, row_wide, with_words}

-- what a caller sees of the fields
abbrev pub plain : Inside → PlainRows
plain inside = record { count = inside.count; bits = inside.bits; width = inside.width; words = inside.words.items }

pub row_inside : (inside : Inside) (rows : PlainRows) → plain inside ≡ rows → IsTable (plain inside) → (row : ℕ) → row < rows.count
    → row * inside.width + inside.width ≤ length rows.words
row_inside inside rows view table row few =
    let lt : row < inside.count = omega (arith, few, ap (λ (t : PlainRows). t.count) view) in
    omega (arith, row_ends (plain inside) row table lt, ap (λ (t : PlainRows). length t.words) view)

-- a table lends the words of a row to be written
pub record Lends (inside : Inside) (rows : PlainRows) (row : ℕ) (words : List ℕ) : Type 0 where
  pub view : plain inside ≡ rows
  pub table : IsTable (plain inside)
  pub few : row < rows.count
  pub same : words ≡ inside.words.items

module _ {inside : Inside} {rows : PlainRows} {row : ℕ} {words : List ℕ} (lends : Lends inside rows row words) where
  lt : row < inside.count
  lt = omega (arith, lends.few, ap (λ (t : PlainRows). t.count) lends.view)

  pub lent_row : take ((row * inside.width + inside.width) - row * inside.width) (drop (row * inside.width) words) ≡ row_of rows row
  lent_row = row_part (plain inside) row words lends.same ∙ ap (λ (t : PlainRows). row_of t row) lends.view

  pub lent_wide : length (take ((row * inside.width + inside.width) - row * inside.width) (drop (row * inside.width) words)) ≡ rows.width
  lent_wide = ap length (row_part (plain inside) row words lends.same) ∙ row_wide (plain inside) row lends.table lt ∙ ap (λ (t : PlainRows). t.width) lends.view

  -- past its last bit a row is clear
  pub lent_clear : (b : ℕ) → rows.bits ≤ b → has_at rows row b ≡ false
  lent_clear b le = ap (λ (t : PlainRows). has_at t row b) (sym lends.view) ∙ lends.table.clear row b lt (omega (arith, le, ap (λ (t : PlainRows). t.bits) lends.view))

  -- other words are written there
  module _ (ys : List ℕ) (len : length ys ≡ rows.width) where
    k : ℕ
    k = (row * inside.width + inside.width) - row * inside.width

    wide : k ≡ inside.width
    unfolding k
    wide = omega arith

    wide_row : length ys ≡ inside.width
    wide_row = len ∙ ap (λ (t : PlainRows). t.width) (sym lends.view)

    whole : length (put_mid (row * inside.width) k words ys) ≡ inside.words.len
    whole =
        length-put_mid (row * inside.width) k words ys (omega (arith, row_ends (plain inside) row lends.table lt, ap length lends.same, wide)) (wide_row ∙ sym wide)
        ∙ omega (arith, ap length lends.same, inside.words.ok.0)

    abbrev written : List ℕ
    written = (with_items inside.words (put_mid (row * inside.width) ((row * inside.width + inside.width) - row * inside.width) words ys)).items

    pub written_bits : (other b : ℕ) → has_at (with_words (plain inside) written) other b ≡ cond (eqb other row) (has ys b) (has_at rows other b)
    unfolding k
    written_bits other b =
        put_bits (plain inside) row lends.table lt written words ys lends.same k wide wide_row (with_items_is inside.words (put_mid (row * inside.width) k words ys) whole) other b
        ∙ ap (λ (t : PlainRows). cond (eqb other row) (has ys b) (has_at t other b)) lends.view

    -- where each bit of the row is changed alike
    pub changed_bits : (f : Bool → Bool) (other b : ℕ) → has ys b ≡ f (has_at rows row b)
        → has_at (with_words (plain inside) written) other b ≡ cond (eqb other row) (f (has_at rows other b)) (has_at rows other b)
    changed_bits f other b e = written_bits other b ∙ elim (cases_eq other row) [
      | inl is ↦
          cond-true (eqb other row) (has ys b) (has_at rows other b) (eq-eqb _ _ is) ∙ e ∙ ap (λ o. f (has_at rows o b)) (sym is)
          ∙ sym (cond-true (eqb other row) (f (has_at rows other b)) (has_at rows other b) (eq-eqb _ _ is))
      | inr apart ↦
          cond-false (eqb other row) (has ys b) (has_at rows other b) (ne_eqb _ _ apart)
          ∙ sym (cond-false (eqb other row) (f (has_at rows other b)) (has_at rows other b) (ne_eqb _ _ apart))
    ]

    pub written_table : ((b : ℕ) → rows.bits ≤ b → has ys b ≡ false) → IsTable (with_words (plain inside) written)
    unfolding k
    written_table clear =
        put_table (plain inside) row lends.table lt written words ys lends.same k wide wide_row (with_items_is inside.words (put_mid (row * inside.width) k words ys) whole)
        (λ b le. clear b (omega (arith, le, ap (λ (t : PlainRows). t.bits) lends.view)))
