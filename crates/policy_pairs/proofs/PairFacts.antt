-- Lists, turns and originated prefixes, as far as the pairs of two policies ask.
use Rattle.std.proofs.Common.{◌≡◌, ℕ, zero, suc, ◌+◌, ◌<◌, ◌≤◌, Bool, true, false, List, [], ◌∷◌, ◌++◌, length, refl, sym, ap, ◌∙◌, arith, ◌-◌, inl, inr, Option, Some, None}
use Rattle.std.specs.Prelude.{filter, is_none, is_some, not, slice_get, if◌then◌else◌}
use Rattle.std.specs.List.{list_any}
use Rattle.std.proofs.lemmas.Bool.{cases_Bool, cases_lt, and_from, and_parts, eq-eqb, eqb-true, false≢true}
use Rattle.std.proofs.lemmas.Option.{same_Some}
use Rattle.list_law.specs.Members.{IsIn}
use Rattle.list_law.proofs.Members.{IsIn-later}
use Rattle.net_base.specs.Prefixes.{PlainPattern, PlainPrefix, same_prefix}
use Rattle.evidence_law.proofs.CaseLists.{prefix_is}
use Rattle.policy_base.specs.declared.policy.Origin.{Origin}
use Rattle.policy_base.specs.Policies.{PlainStatement}
use Rattle.policy_base.specs.Governing.{governing_from, originated_at, some_contains}
use Rattle.first_patterns.specs.declared.firsts.Stated.{Stated}
use Rattle.first_patterns.specs.Firsts.{first_place}
use Rattle.compare_base.specs.declared.cases.CasePair.{CasePair}
use Rattle.compare_base.specs.Order.{IsLess}
use Rattle.policy_pairs.specs.Groups.{IsNoLater, turn_of}
use Rattle.policy_pairs.specs.Pairs.{ComesByStatement, prefixes_of}

-- ---- lists and options

pub filter_first : {A : Type 0} (test : A → Bool) (xs : List A) (m : ℕ) (x : A) → slice_get xs m ≡ Some x → test x ≡ true
    → ((l : ℕ) (y : A) → l < m → slice_get xs l ≡ Some y → test y ≡ false) → slice_get (filter test xs) 0 ≡ Some x
filter_first test [] m x at on before = absurd cc
filter_first test (y ∷ ys) zero x at on before =
    let same : y ≡ x = same_Some y x at in
    ap (λ b. slice_get (if b then y ∷ filter test ys else filter test ys) 0) (ap test same ∙ on) ∙ at
filter_first test (y ∷ ys) (suc m) x at on before =
    ap (λ b. slice_get (if b then y ∷ filter test ys else filter test ys) 0) (before zero y (omega arith) refl)
    ∙ filter_first test ys m x at on (λ l z less there. before (suc l) z (omega (arith, less)) there)

pub item_behind : {A : Type 0} (xs ys : List A) (i : ℕ) → length xs ≤ i → slice_get (xs ++ ys) i ≡ slice_get ys (i - length xs)
item_behind [] ys i past = let same : i ≡ i - zero = omega arith in ap (slice_get ys) same
item_behind (x ∷ xs) ys zero past = absurd (omega (arith, past))
item_behind (x ∷ xs) ys (suc i) past =
    let same : i - length xs ≡ suc i - suc (length xs) = omega arith in
    item_behind xs ys i (omega (arith, past)) ∙ ap (slice_get ys) same

pub first_place_some : (test : PlainPattern → Bool) (ts : List Stated) (k : ℕ) → is_some (first_place test ts k) ≡ list_any (λ (t : Stated). test t.pattern) ts
first_place_some test [] k = refl
first_place_some test (t ∷ ts) k = elim (cases_Bool (test t.pattern)) [
  | inl met ↦ rw met refl
  | inr missed ↦ rw missed (first_place_some test ts (k + 1))
]

pub governing_few : (ss : List PlainStatement) (p : PlainPrefix) (k n : ℕ) → governing_from ss p k ≡ Some n → n < k + length ss
governing_few [] p k n is = absurd cc
governing_few (s ∷ ss) p k n is = elim (cases_Bool (some_contains s.patterns p)) [
  | inl t ↦ let here : k ≡ n = same_Some k n (ap (λ b. if b then Some k else governing_from ss p (k + 1)) (sym t) ∙ is) in omega (arith, here)
  | inr t ↦ let later = governing_few ss p (k + 1) n (ap (λ b. if b then Some k else governing_from ss p (k + 1)) (sym t) ∙ is) in omega (arith, later)
]

-- ---- turns

-- no statement has the number after which none comes
abbrev pub IsFew : Option ℕ → Type 0
IsFew statement = (k : ℕ) → statement ≡ Some k → k < 4294967295

pub is_less : (a b : Option ℕ) → IsFew a → IsFew b → turn_of a < turn_of b → IsLess a b
is_less (Some i) (Some j) few_a few_b less = less
is_less (Some i) None few_a few_b less = tt
is_less None (Some j) few_a few_b less = let few = few_b j refl in absurd (omega (arith, less, few))
is_less None None few_a few_b less = absurd (omega (arith, less))

pub same_turn : (a b : Option ℕ) → IsFew a → IsFew b → turn_of a ≡ turn_of b → a ≡ b
same_turn (Some i) (Some j) few_a few_b same = ap Some same
same_turn (Some i) None few_a few_b same = let few = few_a i refl in absurd (omega (arith, same, few))
same_turn None (Some j) few_a few_b same = let few = few_b j refl in absurd (omega (arith, same, few))
same_turn None None few_a few_b same = refl

pub strictly : (a b : CasePair) → IsFew a.old.statement → IsFew b.old.statement → IsFew a.new.statement → IsFew b.new.statement → IsNoLater a b
    → (a.old.statement ≡ b.old.statement → a.new.statement ≡ b.new.statement → ⊥) → ComesByStatement a b
strictly a b few_a few_b few_a_too few_b_too (inl less) apart = inl (is_less a.old.statement b.old.statement few_a few_b less)
strictly a b few_a few_b few_a_too few_b_too (inr rest) apart =
    let same = same_turn a.old.statement b.old.statement few_a few_b rest.0 in
    inr (
      same,
      elim (cases_lt (turn_of a.new.statement) (turn_of b.new.statement)) [
        | inl t ↦ is_less a.new.statement b.new.statement few_a_too few_b_too t
        | inr t ↦
            let no_less = rest.1 in
            absurd (apart same (same_turn a.new.statement b.new.statement few_a_too few_b_too (omega (arith, no_less, t))))
      ],
    )

-- ---- originated prefixes

pub same_prefix_is : (p q : PlainPrefix) → same_prefix p q ≡ true → p ≡ q
same_prefix_is p q same = let parts = and_parts _ _ same in prefix_is p q (eqb-true _ _ parts.0) (eqb-true _ _ parts.1)

pub originated_some : (items : List Origin) (o : Origin) → IsIn items o → is_some (originated_at items o.prefix) ≡ true
originated_some [] o (i, at) = absurd cc
originated_some (x ∷ xs) o (zero, at) =
    let is : x ≡ o = same_Some x o at in
    let itself : same_prefix x.prefix x.prefix ≡ true = and_from _ _ (eq-eqb x.prefix.bits x.prefix.bits refl) (eq-eqb x.prefix.len x.prefix.len refl) in
    let on : same_prefix x.prefix o.prefix ≡ true = ap (λ (y : Origin). same_prefix x.prefix y.prefix) (sym is) ∙ itself in
    ap (λ b. is_some (if b then Some x.at else originated_at xs o.prefix)) on
originated_some (x ∷ xs) o (suc i, at) = elim (cases_Bool (same_prefix x.prefix o.prefix)) [
  | inl t ↦ ap (λ b. is_some (if b then Some x.at else originated_at xs o.prefix)) t
  | inr t ↦ ap (λ b. is_some (if b then Some x.at else originated_at xs o.prefix)) t ∙ originated_some xs o (i, at)
]

pub originated_item : (items : List Origin) (p : PlainPrefix) → is_some (originated_at items p) ≡ true → IsIn (prefixes_of items) p
originated_item [] p some = absurd (false≢true some)
originated_item (x ∷ xs) p some = elim (cases_Bool (same_prefix x.prefix p)) [
  | inl t ↦ (0, ap Some (same_prefix_is x.prefix p t))
  | inr t ↦ IsIn-later x.prefix p (prefixes_of xs) (originated_item xs p (ap (λ b. is_some (if b then Some x.at else originated_at xs p)) (sym t) ∙ some))
]

pub is_none_not : {A : Type 0} (o : Option A) → is_none o ≡ not (is_some o)
is_none_not None = refl
is_none_not (Some x) = refl
