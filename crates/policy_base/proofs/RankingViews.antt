-- The expression of each value.
use Rattle.std.proofs.Common.{◌≡◌, ℕ, ◌+◌, ◌*◌, ◌≤◌, ◌≢◌, ◌^◌, ◌-◌, min, arith, List, map, Box, Global, ◌&&◌, ◌⊎◌, inl, inr, ap, ◌∙◌, rules}
use Rattle.std.specs.Prelude.{None, option_map, option_and_then}
use Rattle.std.specs.Option.{option_or}
use Rattle.net_base.specs.Network.{PlainNet}
use Rattle.net_base.specs.declared.loc.LocSet.{LocSet}
use Rattle.policy_words.specs.declared.word.SetCall.{SetCall}
use Rattle.policy_base.specs.declared.call.Call.TheVariants.{Of}
use Rattle.policy_base.specs.declared.ranked.Ranked.{Ranked, Call as OneCall, Calls, Prefer, Or, And, Not, the_lemmas}
use Rattle.policy_base.specs.Policies.{calls, prefer, either, both, negated, ranking_of}
use Rattle.policy_base.specs.Meaning.{alternatives, alternative_count, some_test, place_of}
use Rattle.policy_base.proofs.RankLemmas.{some_test-pairs}
use Rattle.policy_base.proofs.RankPlaces.{place_of-append, place_of-pairs, length-alternatives, place_of_none}
use Rattle.std.proofs.Math.Nat.{zero-mul, mul-zero}
use Rattle.list_law.proofs.Numbers.{le-mul_left, le-mul_right}

pub ranking_of-Calls : (c : SetCall) (sets : List LocSet) → ranking_of (Calls c sets) ≡ calls (map (Of c) sets)
ranking_of-Calls c sets = search (rules, the_lemmas)

pub ranking_of-Prefer : (a b : Box Ranked Global) → ranking_of (Prefer a b) ≡ prefer (ranking_of a.value) (ranking_of b.value)
ranking_of-Prefer a b = search (rules, the_lemmas)

pub ranking_of-Or : (a b : Box Ranked Global) → ranking_of (Or a b) ≡ either (ranking_of a.value) (ranking_of b.value)
ranking_of-Or a b = search (rules, the_lemmas)

pub ranking_of-And : (a b : Box Ranked Global) → ranking_of (And a b) ≡ both (ranking_of a.value) (ranking_of b.value)
ranking_of-And a b = search (rules, the_lemmas)

pub ranking_of-Not : (a : Box Ranked Global) → ranking_of (Not a) ≡ negated (ranking_of a.value)
ranking_of-Not a = search (rules, the_lemmas)

-- what holds of `a and b` in whichever way the value was taken apart
pub some_test-And : (net : PlainNet) (r : Ranked) (a b : Box Ranked Global) (path : List ℕ) → r ≡ And a b
    → some_test (alternatives net (ranking_of r)) path ≡ (some_test (alternatives net (ranking_of a.value)) path && some_test (alternatives net (ranking_of b.value)) path)
some_test-And net r a b path is =
    ap (λ v. some_test (alternatives net (ranking_of v)) path) is ∙ ap (λ k. some_test (alternatives net k) path) (ranking_of-And a b)
    ∙ some_test-pairs (alternatives net (ranking_of a.value)) (alternatives net (ranking_of b.value)) path

pub alternative_count-And : (r : Ranked) (a b : Box Ranked Global) → r ≡ And a b
    → alternative_count (ranking_of r) ≡ alternative_count (ranking_of a.value) * alternative_count (ranking_of b.value)
alternative_count-And r a b is = ap (λ v. alternative_count (ranking_of v)) is ∙ ap alternative_count (ranking_of-And a b)

pub alternative_count-Prefer : (r : Ranked) (a b : Box Ranked Global) → r ≡ Prefer a b
    → alternative_count (ranking_of r) ≡ alternative_count (ranking_of a.value) + alternative_count (ranking_of b.value)
alternative_count-Prefer r a b is = ap (λ v. alternative_count (ranking_of v)) is ∙ ap alternative_count (ranking_of-Prefer a b)

-- where neither side is empty each has no more alternatives than the whole; m and n are the counts as kept in 64 bits
pub And_fits : (r : Ranked) (a b : Box Ranked Global) → r ≡ And a b → alternative_count (ranking_of r) ≤ 64
    → (m n : ℕ) → m ≡ min (alternative_count (ranking_of a.value)) (2 ^ 64 - 1) → n ≡ min (alternative_count (ranking_of b.value)) (2 ^ 64 - 1) → m ≢ 0 → n ≢ 0
    → (alternative_count (ranking_of a.value) ≤ 64) × (alternative_count (ranking_of b.value) ≤ 64)
And_fits r a b is few m n kept_a kept_b some_a some_b =
    let whole = alternative_count-And r a b is in
    let left = alternative_count (ranking_of a.value) in
    let right = alternative_count (ranking_of b.value) in
    (omega (arith, whole, le-mul_right left right (omega arith)), omega (arith, whole, le-mul_left right left (omega arith)))

pub first-Prefer : (net : PlainNet) (r : Ranked) (a b : Box Ranked Global) (path : List ℕ) → r ≡ Prefer a b
    → place_of (alternatives net (ranking_of r)) path 0
    ≡ option_or (place_of (alternatives net (ranking_of a.value)) path 0)
    (option_map (λ j. alternative_count (ranking_of a.value) + j) (place_of (alternatives net (ranking_of b.value)) path 0))
first-Prefer net r a b path is =
    ap (λ v. place_of (alternatives net (ranking_of v)) path 0) is ∙ ap (λ k. place_of (alternatives net k) path 0) (ranking_of-Prefer a b)
    ∙ place_of-append (alternatives net (ranking_of a.value)) (alternatives net (ranking_of b.value)) path
    ∙ ap (λ n. option_or (place_of (alternatives net (ranking_of a.value)) path 0) (option_map (λ j. n + j) (place_of (alternatives net (ranking_of b.value)) path 0)))
    (length-alternatives net (ranking_of a.value))

pub first-And : (net : PlainNet) (r : Ranked) (a b : Box Ranked Global) (path : List ℕ) → r ≡ And a b
    → place_of (alternatives net (ranking_of r)) path 0
    ≡ option_and_then (λ i. option_map (λ j. i * alternative_count (ranking_of b.value) + j) (place_of (alternatives net (ranking_of b.value)) path 0))
    (place_of (alternatives net (ranking_of a.value)) path 0)
first-And net r a b path is =
    ap (λ v. place_of (alternatives net (ranking_of v)) path 0) is ∙ ap (λ k. place_of (alternatives net k) path 0) (ranking_of-And a b)
    ∙ place_of-pairs (alternatives net (ranking_of a.value)) (alternatives net (ranking_of b.value)) path
    ∙ ap (λ n. option_and_then (λ i. option_map (λ j. i * n + j) (place_of (alternatives net (ranking_of b.value)) path 0)) (place_of (alternatives net (ranking_of a.value)) path 0))
    (length-alternatives net (ranking_of b.value))

pub first-And_none : (net : PlainNet) (r : Ranked) (a b : Box Ranked Global) (path : List ℕ) → r ≡ And a b
    → (alternative_count (ranking_of a.value) ≡ 0) ⊎ (alternative_count (ranking_of b.value) ≡ 0) → None ≡ place_of (alternatives net (ranking_of r)) path 0
first-And_none net r a b path is (inl none) =
    place_of_none net (ranking_of r) path (alternative_count-And r a b is ∙ ap (λ n. n * alternative_count (ranking_of b.value)) none ∙ zero-mul _)
first-And_none net r a b path is (inr none) =
    place_of_none net (ranking_of r) path (alternative_count-And r a b is ∙ ap (λ n. alternative_count (ranking_of a.value) * n) none ∙ mul-zero _)
