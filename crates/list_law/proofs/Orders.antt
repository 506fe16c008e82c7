-- Answers of comparisons, of numbers and of lists of numbers.
use Rattle.std.proofs.Common.{◌<◌, ◌∙◌, ◌∷◌, ◌≡◌, Bool, List, [], ap, arith, cond, false, inl, inr, refl, sym, true, ℕ}
use Rattle.std.specs.Cmp.{nat_cmp_is}
use Rattle.std.specs.Cmp.Lexicographic.{slice_cmp}
use Rattle.std.specs.Ordering.{is_eq, nat_cmp, ordering_then}
use Rattle.std.specs.Prelude.{◌&&◌, ◌==◌, ◌⊎◌, nat_lt}
use Rattle.std.specs.declared.cmp.Ordering.{Ordering}
use Rattle.std.specs.declared.cmp.Ordering.TheVariants.{Equal, Greater, Less}
use Rattle.std.proofs.lemmas.Bool.{and_parts, cases_Bool, eqb-true, false≢true, ltb-true, ne_eqb}
use Rattle.std.proofs.lemmas.Cmp.{ranked}

pub is_eq-Equal : (o : Ordering) → is_eq o ≡ true → o ≡ Equal
is_eq-Equal Less h = absurd (false≢true h)
is_eq-Equal Equal h = refl
is_eq-Equal Greater h = absurd (false≢true h)

pub ordering_then-Equal : (a b : Ordering) → ordering_then a b ≡ Equal → (a ≡ Equal) × (b ≡ Equal)
ordering_then-Equal Less b e = absurd (false≢true (ap is_eq e))
ordering_then-Equal Equal b e = (refl, e)
ordering_then-Equal Greater b e = absurd (false≢true (ap is_eq e))

pub ordering_then-Less : (o p : Ordering) → ordering_then o p ≡ Less → (o ≡ Less) ⊎ ((o ≡ Equal) × (p ≡ Less))
ordering_then-Less Less p h = inl refl
ordering_then-Less Equal p h = inr (refl, h)
ordering_then-Less Greater p h = absurd (cc)

pub ordering_then_assoc : (a b c : Ordering) → ordering_then (ordering_then a b) c ≡ ordering_then a (ordering_then b c)
ordering_then_assoc Less b c = refl
ordering_then_assoc Equal b c = refl
ordering_then_assoc Greater b c = refl

pub ordering_then-last : (o : Ordering) → ordering_then o Equal ≡ o
ordering_then-last Less = refl
ordering_then-last Equal = refl
ordering_then-last Greater = refl

pub is_eq-ordering_then : (o p : Ordering) → is_eq (ordering_then o p) ≡ (is_eq o && is_eq p)
is_eq-ordering_then Less p = refl
is_eq-ordering_then Equal p = refl
is_eq-ordering_then Greater p = refl

pub is_eq-nat_cmp : (x y : ℕ) → is_eq (nat_cmp x y) ≡ (x == y)
is_eq-nat_cmp x y = elim (cases_Bool (nat_lt x y)) [
  | inl t ↦
      let below = ltb-true x y t in
      let off : (x == y) ≡ false = ne_eqb x y (λ e. omega arith) in
      rw (t, off) refl
  | inr t ↦ rw t (elim (cases_Bool (x == y)) [ inl u ↦ rw u refl | inr u ↦ rw u refl ])
]

pub nat_cmp-Equal : (x y : ℕ) → nat_cmp x y ≡ Equal → x ≡ y
nat_cmp-Equal x y e = ranked x y Equal (sym e)

pub nat_cmp-Less : (x y : ℕ) → nat_cmp x y ≡ Less → x < y
nat_cmp-Less x y h = elim (cases_Bool (nat_lt x y)) [
  | inl t ↦ ltb-true x y t
  | inr t ↦ absurd (not_less (x == y) (sym (rw t refl) ∙ h))
]
  where
    not_less : (b : Bool) → cond b Equal Greater ≡ Less → ⊥
    not_less true e = cc
    not_less false e = cc

pub slice_cmp-Equal : (v w : List ℕ) → slice_cmp nat_cmp v w ≡ Equal → v ≡ w
slice_cmp-Equal [] [] e = refl
slice_cmp-Equal [] (y ∷ ys) e = absurd (false≢true (ap is_eq e))
slice_cmp-Equal (x ∷ xs) [] e = absurd (false≢true (ap is_eq e))
slice_cmp-Equal (x ∷ xs) (y ∷ ys) e =
    let both = ordering_then-Equal (nat_cmp x y) (slice_cmp nat_cmp xs ys) e in
    ap (λ l. x ∷ l) (slice_cmp-Equal xs ys both.1) ∙ ap (λ z. z ∷ ys) (nat_cmp-Equal x y both.0)

pub is_eq-ordering_then_parts : (o p : Ordering) → is_eq (ordering_then o p) ≡ true → (is_eq o ≡ true) × (is_eq p ≡ true)
is_eq-ordering_then_parts o p h = and_parts (is_eq o) (is_eq p) (sym (is_eq-ordering_then o p) ∙ h)

pub is_eq-nat_cmp_same : (x y : ℕ) → is_eq (nat_cmp x y) ≡ true → x ≡ y
is_eq-nat_cmp_same x y h = eqb-true x y (sym (is_eq-nat_cmp x y) ∙ h)

pub nat_cmp-lesser : (x y : ℕ) → x < y → nat_cmp x y ≡ Less
nat_cmp-lesser x y below = sym (nat_cmp_is x y Less below)
