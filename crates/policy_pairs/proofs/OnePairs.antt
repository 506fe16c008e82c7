-- Two policies have one list of pairs.
use Rattle.std.proofs.Common.{◌≡◌, ℕ, true, false, List, filter, map, refl, sym, ap, ◌∙◌, subst, le_antisymm, arith, inl, inr, Option, Some}
use Rattle.std.specs.Prelude.{IsTrue, is_none, is_some}
use Rattle.std.specs.List.{IsDistinct}
use Rattle.std.proofs.lemmas.Bool.{cases_lt, eq-eqb, and_from, not-true, true≢false}
use Rattle.std.proofs.lemmas.Option.{same_Some}
use Rattle.list_law.specs.Members.{IsIn}
use Rattle.list_law.proofs.Apart.{Apart, Apart-append, Apart-filter, Apart-from_distinct, Apart-map, place_is_one}
use Rattle.list_law.proofs.Items.{same_item}
use Rattle.list_law.proofs.Members.{IsIn-filter_parts, IsIn-map_parts}
use Rattle.net_base.specs.Network.{PlainNet}
use Rattle.net_base.specs.Prefixes.{PlainPrefix, same_prefix}
use Rattle.policy_base.specs.declared.policy.Origin.{Origin}
use Rattle.policy_base.specs.Governing.{originated_at}
use Rattle.policy_base.specs.Policies.{IsPolicyOf, PlainPolicy}
use Rattle.evidence_law.proofs.CaseLists.{prefix_is}
use Rattle.impact_law.proofs.OneImpact.{one_list}
use Rattle.least_prefixes.specs.Classes.{AreLeast, IsNoLater, class_for}
use Rattle.compare_base.specs.declared.cases.CasePair.{CasePair}
use Rattle.compare_base.specs.declared.pairs.Pair.{Pair}
use Rattle.compare_base.specs.declared.pairs.PairPrefixes.{PairPrefixes}
use Rattle.compare_base.specs.declared.pairs.PairPrefixes.TheVariants.{Originated, Others}
use Rattle.compare_base.specs.Cases.{says_something}
use Rattle.compare_base.specs.Order.{IsLess}
use Rattle.compare_base.proofs.Less.{less_itself, less_through}
use Rattle.policy_pairs.specs.Pairs.{ArePairs, ArePrefixes, ComesBefore, ComesByPrefix, ComesByStatement, common_pattern, has_cases, originated_prefixes, prefixes_of}
use Rattle.policy_pairs.proofs.PairFacts.{is_none_not, originated_some}

-- ---- least prefixes

no_later_both : (p q : PlainPrefix) → IsNoLater p q → IsNoLater q p → p ≡ q
no_later_both p q one other =
    let bits : p.bits ≡ q.bits = le_antisymm one.0 other.0 in
    prefix_is p q bits (le_antisymm (one.1 bits) (other.1 (sym bits)))

no_later_through : (p q r : PlainPrefix) → IsNoLater p q → IsNoLater q r → IsNoLater p r
no_later_through p q r one other = (
  omega (arith, one.0, other.0),
  λ same. let first = one.1 (omega (arith, one.0, other.0, same)) in let second = other.1 (omega (arith, one.0, other.0, same)) in omega (arith, first, second),
)

-- no later, and another one
abbrev IsSooner : PlainPrefix → PlainPrefix → Type 0
IsSooner p q = IsNoLater p q × (p ≡ q → ⊥)

sooner_through : (p q r : PlainPrefix) → IsSooner p q → IsSooner q r → IsSooner p r
sooner_through p q r one other = (
  no_later_through p q r one.0 other.0,
  λ same. one.1 (no_later_both p q one.0 (subst (λ (x : PlainPrefix). IsNoLater q x) (sym same) other.0)),
)

module _ (old new : PlainPolicy) where
  -- two prefixes of one class are one
  one_of_class : (ps : List PlainPrefix) → AreLeast old new ps → (p q : PlainPrefix) → IsIn ps p → IsIn ps q → class_for old new p ≡ class_for old new q → p ≡ q
  one_of_class ps are p q (i, at_p) (j, at_q) same = elim (cases_lt i j) [
    | inl t ↦ absurd (are.apart i j p q t at_p at_q same)
    | inr t ↦ elim (cases_lt j i) [
      | inl u ↦ absurd (are.apart j i q p u at_q at_p (sym same))
      | inr u ↦ same_item ps i j p q at_p at_q (omega (arith, t, u))
    ]
  ]

  least_to : (ps qs : List PlainPrefix) → AreLeast old new ps → AreLeast old new qs → (p : PlainPrefix) → IsIn ps p → IsIn qs p
  least_to ps qs one other p at =
      let class = one.classed p at in
      let theirs = other.covered p class.0 (one.each p at) class.1 in
      let mine = one.covered theirs.0 class.0 (other.each theirs.0 theirs.1) theirs.2 in
      let same : mine.0 ≡ p = one_of_class ps one mine.0 p mine.1 at (mine.2 ∙ sym class.1) in
      let is : theirs.0 ≡ p = no_later_both theirs.0 p theirs.3 (subst (λ (x : PlainPrefix). IsNoLater x theirs.0) same mine.3) in
      subst (IsIn qs) is theirs.1

  least_one : (ps qs : List PlainPrefix) → AreLeast old new ps → AreLeast old new qs → ps ≡ qs
  least_one ps qs one other =
      one_list IsSooner (λ p h. h.1 refl) sooner_through ps qs
      (λ i j p q less at_p at_q. (one.order i j p q less at_p at_q, λ same. one.apart i j p q less at_p at_q (ap (class_for old new) same)))
      (λ i j p q less at_p at_q. (other.order i j p q less at_p at_q, λ same. other.apart i j p q less at_p at_q (ap (class_for old new) same)))
      (least_to ps qs one other) (least_to qs ps other one)

  -- ---- the prefixes of a pair

  prefixes_one : (cases : CasePair) (a b : PairPrefixes) → ArePrefixes old new cases a → ArePrefixes old new cases b → a ≡ b
  prefixes_one cases (Originated ps) (Originated qs) one other = ap Originated (one.1 ∙ sym other.1)
  prefixes_one cases (Originated ps) (Others patterns) one other = absurd (true≢false (sym one.0 ∙ other.0))
  prefixes_one cases (Others patterns) (Originated qs) one other = absurd (true≢false (sym other.0 ∙ one.0))
  prefixes_one cases (Others patterns) (Others theirs) (off, (ps, are, is)) (off_too, (qs, are_too, is_too)) =
      ap Others (is ∙ ap (λ (ls : List PlainPrefix). map (common_pattern old new) (filter (has_cases old new cases) ls)) (least_one ps qs are are_too) ∙ sym is_too)

-- ---- the order of pairs

statement_itself : (a : CasePair) → ComesByStatement a a → ⊥
statement_itself a (inl less) = less_itself a.old.statement less
statement_itself a (inr both) = less_itself a.new.statement both.1

statement_through : (a b c : CasePair) → ComesByStatement a b → ComesByStatement b c → ComesByStatement a c
statement_through a b c (inl one) (inl other) = inl (less_through a.old.statement b.old.statement c.old.statement one other)
statement_through a b c (inl one) (inr other) = inl (subst (λ (s : Option ℕ). IsLess a.old.statement s) other.0 one)
statement_through a b c (inr one) (inl other) = inl (subst (λ (s : Option ℕ). IsLess s c.old.statement) (sym one.0) other)
statement_through a b c (inr one) (inr other) = inr (one.0 ∙ other.0, less_through a.new.statement b.new.statement c.new.statement one.1 other.1)

-- no prefix is originated twice
items_apart : (items : List Origin) → IsDistinct same_prefix (map (λ (o : Origin). o.prefix) items) → Apart (λ (p q : PlainPrefix). p ≡ q) (prefixes_of items)
items_apart items once =
    Apart-map (λ (x y : Origin). same_prefix x.prefix y.prefix ≡ true) (λ (p q : PlainPrefix). p ≡ q) (λ (o : Origin). o.prefix) items
    (Apart-from_distinct same_prefix (λ (o : Origin). o.prefix) items once)
    (λ x y at_x at_y same. and_from _ _ (eq-eqb x.prefix.bits y.prefix.bits (ap (λ (p : PlainPrefix). p.bits) same)) (eq-eqb x.prefix.len y.prefix.len (ap (λ (p : PlainPrefix). p.len) same)))

module _ (net : PlainNet) (old new : PlainPolicy) (kept : IsPolicyOf net old) (kept_too : IsPolicyOf net new) where
  abbrev all : List PlainPrefix
  all = originated_prefixes old new

  all_apart : Apart (λ (p q : PlainPrefix). p ≡ q) all
  all_apart =
      Apart-append (λ (p q : PlainPrefix). p ≡ q) (prefixes_of old.origins) (filter (λ p. is_none (originated_at old.origins p)) (prefixes_of new.origins))
      (items_apart old.origins kept.rules.once) (Apart-filter (λ (p q : PlainPrefix). p ≡ q) (λ p. is_none (originated_at old.origins p)) (prefixes_of new.origins) (items_apart new.origins kept_too.rules.once))
      (λ p q at_p at_q same.
      let item = IsIn-map_parts (λ (o : Origin). o.prefix) old.origins p at_p in
      let there : is_some (originated_at old.origins q) ≡ true = subst (λ (x : PlainPrefix). is_some (originated_at old.origins x) ≡ true) (item.2 ∙ same) (originated_some old.origins item.0 item.1) in
      let off = (IsIn-filter_parts (λ x. is_none (originated_at old.origins x)) (prefixes_of new.origins) q at_q).1 in
      true≢false (sym there ∙ not-true (is_some (originated_at old.origins q)) (sym (is_none_not (originated_at old.origins q)) ∙ off)))

  prefix_itself : (ps : List PlainPrefix) → ComesByPrefix all ps ps → ⊥
  prefix_itself ps is =
      let same : is.one ≡ is.other = same_Some is.one is.other (sym is.is_first ∙ is.is_other_first) in
      let at = is.places in
      let places = place_is_one all all_apart at.0 at.1 is.one at.3 (at.4 ∙ ap (λ (p : PlainPrefix). Some p) (sym same)) in
      absurd (omega (arith, at.2, places))

  prefix_through : (ps qs rs : List PlainPrefix) → ComesByPrefix all ps qs → ComesByPrefix all qs rs → ComesByPrefix all ps rs
  prefix_through ps qs rs x y =
      let same : x.other ≡ y.one = same_Some x.other y.one (sym x.is_other_first ∙ y.is_first) in
      let a = x.places in
      let b = y.places in
      let places = place_is_one all all_apart a.1 b.0 x.other a.4 (b.3 ∙ ap (λ (p : PlainPrefix). Some p) (sym same)) in
      record { one = x.one; other = y.other; is_first = x.is_first; is_other_first = y.is_other_first; places = (a.0, b.1, omega (arith, a.2, b.2, places), a.3, b.4) }

  before_itself : (a : Pair) (ps : PairPrefixes) → ComesBefore old new a ps a ps → ⊥
  before_itself a (Originated ps) is = prefix_itself ps is
  before_itself a (Others patterns) is = statement_itself a.cases is

  before_through : (a b c : Pair) (ps qs rs : PairPrefixes) → ComesBefore old new a ps b qs → ComesBefore old new b qs c rs → ComesBefore old new a ps c rs
  before_through a b c (Originated ps) (Originated qs) (Originated rs) one other = prefix_through ps qs rs one other
  before_through a b c (Originated ps) (Originated qs) (Others patterns) one other = tt
  before_through a b c (Originated ps) (Others patterns) (Originated rs) one other = absurd other
  before_through a b c (Originated ps) (Others patterns) (Others later) one other = tt
  before_through a b c (Others patterns) (Originated qs) rs one other = absurd one
  before_through a b c (Others patterns) (Others later) (Originated rs) one other = absurd other
  before_through a b c (Others patterns) (Others later) (Others last) one other = statement_through a.cases b.cases c.cases one other

  -- ---- all pairs

  pair_to : (xs ys : List Pair) → ArePairs net old new xs → ArePairs net old new ys → (pair : Pair) → IsIn xs pair → IsIn ys pair
  pair_to xs ys one other pair at =
      let is = one.each pair at in
      let has = is.has in
      let found = other.all has.0 has.1 (subst (λ (cases : CasePair). IsTrue (says_something net cases)) (sym has.2) is.said) in
      let cases : found.0.cases ≡ pair.cases = found.2 ∙ has.2 in
      let told = subst (λ (c : CasePair). ArePrefixes old new c found.0.prefixes) cases (other.each found.0 found.1).told in
      let prefixes = prefixes_one old new pair.cases found.0.prefixes pair.prefixes told is.told in
      let same : found.0 ≡ pair = λ i. record { cases = cases i; prefixes = prefixes i } in
      subst (IsIn ys) same found.1

  pub one_pairs : (xs ys : List Pair) → ArePairs net old new xs → ArePairs net old new ys → xs ≡ ys
  one_pairs xs ys one other =
      one_list (λ a b. ComesBefore old new a a.prefixes b b.prefixes) (λ a. before_itself a a.prefixes) (λ a b c. before_through a b c a.prefixes b.prefixes c.prefixes) xs ys
      one.order other.order (pair_to xs ys one other) (pair_to ys xs other one)
