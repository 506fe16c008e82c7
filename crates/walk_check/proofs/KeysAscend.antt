-- Keys of which each comes before the next one stand once each.
use Rattle.std.proofs.Common.{◌≡◌, ℕ, suc, ◌+◌, ◌-◌, ◌<◌, ◌≤◌, true, false, List, [], ◌∷◌, length, get_or, Some, refl, sym, ap, ◌∙◌, arith, inl, inr, eqb-true}
use Rattle.std.specs.Prelude.{◌⊎◌, ◌==◌, ◌&&◌, nat_lt}
use Rattle.std.specs.List.{AllByRecursion, IsDistinct}
use Rattle.std.proofs.lemmas.Bool.{and_parts, cases_lt, false_from_ne_true, ltb-true, or_cases}
use Rattle.std.proofs.lemmas.Option.{same_Some, slice_get-get_or}
use Rattle.graph_base.specs.Rules.{same_pair}
use Rattle.walk_check.specs.Keys.{is_before}

abbrev Before : ℕ × ℕ → ℕ × ℕ → Type 0
Before a b = (a.0 < b.0) ⊎ ((a.0 ≡ b.0) × (a.1 < b.1))

comes_before : (a b : ℕ × ℕ) → is_before a b ≡ true → Before a b
comes_before a b h = elim (or_cases (nat_lt a.0 b.0) (a.0 == b.0 && nat_lt a.1 b.1) h) [
  | inl less ↦ inl (ltb-true a.0 b.0 less)
  | inr same ↦ let parts = and_parts (a.0 == b.0) (nat_lt a.1 b.1) same in inr (eqb-true a.0 b.0 parts.0, ltb-true a.1 b.1 parts.1)
]

onward : (a b c : ℕ × ℕ) → Before a b → Before b c → Before a c
onward a b c (inl lt) (inl then) = inl (omega (arith, lt, then))
onward a b c (inl lt) (inr then) = let at = then.0 in inl (omega (arith, lt, at))
onward a b c (inr lt) (inl then) = let at = lt.0 in inl (omega (arith, at, then))
onward a b c (inr lt) (inr then) =
    let at = lt.0 in
    let also = then.0 in
    let less = lt.1 in
    let more = then.1 in
    inr (omega (arith, at, also), omega (arith, less, more))

apart : (a b : ℕ × ℕ) → Before a b → same_pair a b ≡ false
apart a b before = false_from_ne_true (same_pair a b) (λ same. let parts = and_parts (a.0 == b.0) (a.1 == b.1) same in differ before (eqb-true a.0 b.0 parts.0) (eqb-true a.1 b.1 parts.1))
  where
    differ : Before a b → a.0 ≡ b.0 → a.1 ≡ b.1 → ⊥
    differ (inl lt) first second = absurd (omega (arith, lt, first))
    differ (inr lt) first second = let less = lt.1 in absurd (omega (arith, less, second))

-- each comes before the next one, the first of them behind one more
abbrev Chain : ℕ × ℕ → List (ℕ × ℕ) → Type 0
Chain a [] = Unit {0}
Chain a (b ∷ bs) = Before a b × Chain b bs

before_all : (a b : ℕ × ℕ) (bs : List (ℕ × ℕ)) → Before a b → Chain b bs → AllByRecursion (λ c. same_pair a c ≡ false) (b ∷ bs)
before_all a b [] before chain = (apart a b before, tt)
before_all a b (c ∷ cs) before chain = (apart a b before, before_all a c cs (onward a b c before chain.0) chain.1)

chain-distinct : (a : ℕ × ℕ) (bs : List (ℕ × ℕ)) → Chain a bs → IsDistinct same_pair (a ∷ bs)
unfolding IsDistinct
chain-distinct a [] chain = (tt, tt)
chain-distinct a (b ∷ bs) chain = (before_all a b bs chain.0 chain.1, chain-distinct b bs chain.1)

-- of so many keys at the front each comes before the next one
abbrev pub Ascends : List (ℕ × ℕ) → ℕ → Type 0
Ascends keys n = (k : ℕ) (a b : ℕ × ℕ) → suc k < n → a ≡ get_or keys k a → b ≡ get_or keys (suc k) b → is_before a b ≡ true

one_key : (keys : List (ℕ × ℕ)) (k : ℕ) (a b : ℕ × ℕ) → k < length keys → a ≡ get_or keys k a → b ≡ get_or keys k b → a ≡ b
one_key keys k a b within at also = same_Some a b (ap Some at ∙ sym (slice_get-get_or keys k a within) ∙ slice_get-get_or keys k b within ∙ ap Some (sym also))

pub ascends-one : (keys : List (ℕ × ℕ)) → Ascends keys 1
ascends-one keys k a b lt = absurd (omega (arith, lt))

pub ascends-next : (keys : List (ℕ × ℕ)) (n : ℕ) (a b : ℕ × ℕ) → 1 ≤ n → n < length keys → a ≡ get_or keys (n - 1) a → b ≡ get_or keys n b
    → is_before a b ≡ true → Ascends keys n → Ascends keys (n + 1)
ascends-next keys n a b some within at_a at_b before ascends k c d lt at_c at_d = elim (cases_lt (suc k) n) [
  | inl less ↦ ascends k c d less at_c at_d
  | inr last ↦
      let here : suc k ≡ n = omega (arith, lt, last) in
      let one : k ≡ n - 1 = omega (arith, here) in
      let first = one_key keys k a c (omega (arith, here, within)) (at_a ∙ ap (λ j. get_or keys j a) (sym one)) at_c in
      let second = one_key keys (suc k) b d (omega (arith, here, within)) (at_b ∙ ap (λ j. get_or keys j b) (sym here)) at_d in
      (λ i. is_before (sym first i) (sym second i)) ∙ before
]

chain-from : (a : ℕ × ℕ) (bs : List (ℕ × ℕ)) → Ascends (a ∷ bs) (length (a ∷ bs)) → Chain a bs
chain-from a [] ascends = tt
chain-from a (b ∷ bs) ascends = (comes_before a b (ascends 0 a b (omega arith) refl refl), chain-from b bs (λ k c d lt at_c at_d. ascends (suc k) c d (omega (arith, lt)) at_c at_d))

none-distinct : IsDistinct same_pair []
unfolding IsDistinct
none-distinct = tt

pub ascending-distinct : (keys : List (ℕ × ℕ)) → Ascends keys (length keys) → IsDistinct same_pair keys
ascending-distinct [] ascends = none-distinct
ascending-distinct (a ∷ bs) ascends = chain-distinct a bs (chain-from a bs ascends)
