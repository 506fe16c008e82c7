-- Of two rows that differ one is earlier, and places are told apart by a test.
use Rattle.std.proofs.Common.{◌≡◌, ℕ, Bool, true, false, refl, sym, ap, ◌∙◌, arith, inl, inr, Option, Some, None, ltb-false}
use Rattle.std.specs.Prelude.{◌&&◌, ◌||◌, nat_eq}
use Rattle.std.specs.Option.{option_eq}
use Rattle.std.proofs.lemmas.Bool.{and_from, and_parts, cases_Bool, or_parts, true≢false}
use Rattle.list_law.proofs.Options.{is-option_eq, option_eq-is}
use Rattle.list_law.proofs.Truth.{same_tests}
use Rattle.compare_base.specs.declared.rows.Place.{Place}
use Rattle.compare_base.specs.declared.rows.Row.{Row}
use Rattle.compare_base.specs.Same.{same_place, same_row}
use Rattle.pair_rows.specs.Meetings.{earlier, less_rank}
use Rattle.pair_rows.proofs.RowsMet.{place_is, place_same}

-- ---- rows

less_total : (a b : Option ℕ) → less_rank a b ≡ false → less_rank b a ≡ false → a ≡ b
less_total (Some i) (Some j) one other = let same : i ≡ j = omega (arith, ltb-false i j one, ltb-false j i other) in ap Some same
less_total (Some i) None one other = absurd (true≢false one)
less_total None (Some j) one other = absurd (true≢false other)
less_total None None one other = refl

-- the test of two rows by which they are the same
pub row_is : (a b : Row) → same_row a b ≡ true → a ≡ b
row_is a b is =
    let parts = and_parts (option_eq nat_eq a.old b.old) (option_eq nat_eq a.new b.new) is in
    λ i. record { old = option_eq-is a.old b.old parts.0 i; new = option_eq-is a.new b.new parts.1 i }

pub row_same : (a b : Row) → a.old ≡ b.old → a.new ≡ b.new → same_row a b ≡ true
row_same a b old new = and_from _ _ (is-option_eq a.old b.old old) (is-option_eq a.new b.new new)

or_second : (x : Bool) {y : Bool} → y ≡ true → (x || y) ≡ true
or_second true is = refl
or_second false is = is

-- a row that is neither earlier nor the same is later
pub later : (a b : Row) → earlier a b ≡ false → same_row a b ≡ false → earlier b a ≡ true
later a b off apart =
    let parts = or_parts (less_rank a.old b.old) (option_eq nat_eq a.old b.old && less_rank a.new b.new) off in
    elim (cases_Bool (less_rank b.old a.old)) [
      | inl t ↦ ap (λ x. x || (option_eq nat_eq b.old a.old && less_rank b.new a.new)) t
      | inr t ↦
          let old : a.old ≡ b.old = less_total a.old b.old parts.0 t in
          elim (cases_Bool (less_rank b.new a.new)) [
            | inl u ↦ or_second (less_rank b.old a.old) (and_from _ _ (is-option_eq b.old a.old (sym old)) u)
            | inr u ↦
                let new_off : less_rank a.new b.new ≡ false = sym (ap (λ x. x && less_rank a.new b.new) (is-option_eq a.old b.old old)) ∙ parts.1 in
                absurd (true≢false (sym (row_same a b old (less_total a.new b.new new_off u)) ∙ apart))
          ]
    ]

-- ---- places

pub same_place_comm : (a b : Place) → same_place a b ≡ same_place b a
same_place_comm a b = same_tests (same_place a b) (same_place b a) (λ t. place_same b a (sym (place_is a b t))) (λ t. place_same a b (sym (place_is b a t)))
