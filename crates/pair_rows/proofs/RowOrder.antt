-- Rows come in an order: of two that differ one is earlier.
use Rattle.std.proofs.Common.{◌≡◌, ◌⊎◌, ℕ, Bool, true, false, refl, sym, ap, ◌∙◌, arith, inl, inr, Option, Some, None, lt-ltb, ltb-true}
use Rattle.std.specs.Prelude.{◌&&◌, ◌||◌, nat_eq}
use Rattle.std.specs.Option.{option_eq}
use Rattle.std.proofs.lemmas.Bool.{and_from, and_parts, false≢true, or_cases}
use Rattle.list_law.proofs.Options.{is-option_eq, option_eq-is}
use Rattle.compare_base.specs.declared.rows.Row.{Row}
use Rattle.pair_rows.specs.Meetings.{earlier, less_rank}

less_trans : (a b c : Option ℕ) → less_rank a b ≡ true → less_rank b c ≡ true → less_rank a c ≡ true
less_trans (Some i) (Some j) (Some k) one other = let first = ltb-true i j one in let second = ltb-true j k other in lt-ltb i k (omega (arith, first, second))
less_trans (Some i) (Some j) None one other = refl
less_trans (Some i) None c one other = absurd (false≢true other)
less_trans None b c one other = absurd (false≢true one)

less_apart : (a : Option ℕ) → less_rank a a ≡ true → ⊥
less_apart (Some i) less = let lt = ltb-true i i less in absurd (omega (arith, lt))
less_apart None less = absurd (false≢true less)

row_is : (a b : Row) → a.old ≡ b.old → a.new ≡ b.new → a ≡ b
row_is a b old new = λ i. record { old = old i; new = new i }

by_old : (a b : Row) → less_rank a.old b.old ≡ true → earlier a b ≡ true
by_old a b less = ap (λ t. t || (option_eq nat_eq a.old b.old && less_rank a.new b.new)) less

by_new : (a b : Row) → a.old ≡ b.old → less_rank a.new b.new ≡ true → earlier a b ≡ true
by_new a b same less = or_second (less_rank a.old b.old) (and_from _ _ (is-option_eq a.old b.old same) less)
  where
    or_second : (x : Bool) {y : Bool} → y ≡ true → (x || y) ≡ true
    or_second true is = refl
    or_second false is = is

earlier_parts : (a b : Row) → earlier a b ≡ true → (less_rank a.old b.old ≡ true) ⊎ ((a.old ≡ b.old) × (less_rank a.new b.new ≡ true))
earlier_parts a b is = elim (or_cases (less_rank a.old b.old) (option_eq nat_eq a.old b.old && less_rank a.new b.new) is) [
  | inl t ↦ inl t
  | inr t ↦ let parts = and_parts (option_eq nat_eq a.old b.old) (less_rank a.new b.new) t in inr (option_eq-is a.old b.old parts.0, parts.1)
]

pub earlier_apart : (a b : Row) → earlier a b ≡ true → a ≡ b → ⊥
earlier_apart a b is same = elim (earlier_parts a b is) [
  | inl t ↦ less_apart a.old (ap (less_rank a.old) (ap (λ (r : Row). r.old) same) ∙ t)
  | inr t ↦ less_apart a.new (ap (less_rank a.new) (ap (λ (r : Row). r.new) same) ∙ t.1)
]

pub earlier_trans : (a b c : Row) → earlier a b ≡ true → earlier b c ≡ true → earlier a c ≡ true
earlier_trans a b c one other = elim (earlier_parts a b one) [
  | inl t ↦ elim (earlier_parts b c other) [
    | inl u ↦ by_old a c (less_trans a.old b.old c.old t u)
    | inr u ↦ by_old a c (ap (less_rank a.old) (sym u.0) ∙ t)
  ]
  | inr t ↦ elim (earlier_parts b c other) [
    | inl u ↦ by_old a c (ap (λ o. less_rank o c.old) t.0 ∙ u)
    | inr u ↦ by_new a c (t.0 ∙ u.0) (less_trans a.new b.new c.new t.1 u.1)
  ]
]
