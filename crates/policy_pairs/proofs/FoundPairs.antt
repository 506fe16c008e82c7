-- The groups of originated prefixes and of the least of the others are all pairs.
use Rattle.std.proofs.Common.{◌≡◌, ◌≢◌, ◌⊎◌, ℕ, ◌<◌, ◌≤◌, true, false, List, [], ◌++◌, length, map, refl, sym, ap, ◌∙◌, subst, subst₂, append-nil, arith, ◌-◌, inl, inr, Some}
use Rattle.std.specs.Prelude.{filter, nat_lt, slice_get, ◌&&◌, IsTrue}
use Rattle.std.proofs.lemmas.Bool.{cases_Bool, cases_lt, and_parts, le-ltb, lt-ltb, or_cases, true≢false}
use Rattle.list_law.specs.Members.{IsIn}
use Rattle.list_law.proofs.Items.{from_front}
use Rattle.list_law.proofs.Members.{IsIn-append_left, IsIn-append_right}
use Rattle.net_base.specs.Network.{PlainNet}
use Rattle.net_base.specs.Prefixes.{IsPrefix, PlainPrefix}
use Rattle.policy_base.specs.Policies.{IsPolicyOf, PlainPolicy}
use Rattle.compare_base.specs.declared.pairs.CommonPattern.{CommonPattern}
use Rattle.compare_base.specs.declared.pairs.Pair.{Pair}
use Rattle.compare_base.specs.declared.pairs.PairPrefixes.{PairPrefixes}
use Rattle.compare_base.specs.declared.pairs.PairPrefixes.TheVariants.{Others}
use Rattle.compare_base.specs.Cases.{is_governed, is_originated, pair_for, says_something}
use Rattle.policy_pairs.specs.declared.groups.Group.{Group}
use Rattle.policy_pairs.specs.Groups.{AreGroups, AreOtherGroups, IsFirstAt, originated_pair, other_pair}
use Rattle.policy_pairs.specs.Pairs.{ArePairs, ComesBefore, IsPair, common_pattern, has_cases, originated_prefixes}
use Rattle.policy_pairs.proofs.PairFacts.{item_behind}
use Rattle.policy_pairs.proofs.BackPairs.{back_all, back_apart, back_at, back_order, back_outside, back_pair}
use Rattle.policy_pairs.proofs.FrontPairs.{first_of, front_all, front_at, front_order, front_originated, front_pair}

module _ (net : PlainNet) (old new : PlainPolicy) (kept : IsPolicyOf net old) (kept_too : IsPolicyOf net new) where
  AreTheOthers : List Group → Type 0
  AreTheOthers others = (IsTrue (nat_lt 0 (length net.peers)) × AreOtherGroups old new others) ⊎ ((nat_lt 0 (length net.peers) ≡ false) × (others ≡ []))

  record IsBack (back : List Pair) : Type 0 where
    each : (i : ℕ) (a : Pair) → slice_get back i ≡ Some a → IsPair net old new a
    outside : (i : ℕ) (a : Pair) → slice_get back i ≡ Some a → is_originated a.cases ≡ false
    told : (i : ℕ) (a : Pair) → slice_get back i ≡ Some a → (patterns : List CommonPattern) × (a.prefixes ≡ Others patterns)
    all : (p : PlainPrefix) → IsPrefix p → is_originated (pair_for old new p) ≡ false → (is_governed (pair_for old new p) && nat_lt 0 (length net.peers)) ≡ true
        → (a : Pair) × IsIn back a × (a.cases ≡ pair_for old new p)
    apart : (i j : ℕ) (a b : Pair) → i < j → slice_get back i ≡ Some a → slice_get back j ≡ Some b → a.cases ≢ b.cases
    order : (i j : ℕ) (a b : Pair) → i < j → slice_get back i ≡ Some a → slice_get back j ≡ Some b → ComesBefore old new a a.prefixes b b.prefixes

  back_is : (others : List Group) → AreTheOthers others → IsBack (map (other_pair old new) others)
  unfolding AreTheOthers
  back_is others (inl there) = record {
    each = back_pair net old new kept kept_too others there.1 there.0;
    outside = back_outside net old new kept kept_too others there.1;
    told = λ i a at. (map (common_pattern old new) (filter (has_cases old new a.cases) there.1.least), ap (λ (b : Pair). b.prefixes) (back_at net old new kept kept_too others there.1 i a at).3);
    all = λ p rules off on. back_all net old new kept kept_too others there.1 p rules off (and_parts _ _ on).0;
    apart = back_apart net old new kept kept_too others there.1;
    order = back_order net old new kept kept_too others there.1;
  }
  back_is others (inr none) = subst (λ (gs : List Group). IsBack (map (other_pair old new) gs)) (sym none.1) (record {
    each = λ i a at. absurd (nothing i a at);
    outside = λ i a at. absurd (nothing i a at);
    told = λ i a at. absurd (nothing i a at);
    all = λ p rules off on. absurd (true≢false (sym (and_parts _ _ on).1 ∙ none.0));
    apart = λ i j a b less at. absurd (nothing i a at);
    order = λ i j a b less at. absurd (nothing i a at);
  })
    where
      nothing : (i : ℕ) (a : Pair) → slice_get [] i ≡ Some a → ⊥
      nothing i a at = cc

  module _ (groups : List Group) (are : AreGroups old new (originated_prefixes old new) groups) (back : List Pair) (is : IsBack back) where
    front : List Pair
    front = map originated_pair groups

    front_apart : (i j : ℕ) (a b : Pair) → i < j → slice_get front i ≡ Some a → slice_get front j ≡ Some b → a.cases ≢ b.cases
    unfolding front
    front_apart i j a b less at_a at_b same =
        let first = first_of net old new kept kept_too groups are i a at_a in
        let order : first.0 < first.0 = are.1.order i j first.0 first.0 a.cases b.cases less (front_at net old new kept kept_too groups are i a at_a).0 (front_at net old new kept kept_too groups are j b at_b).0 first.1
        (subst (λ k. IsFirstAt old new (originated_prefixes old new) k first.0) same first.1) in
        absurd (omega (arith, order))

    data Stands (i : ℕ) (a : Pair) : Type 0 where
      in_front : slice_get front i ≡ Some a → i < length front → Stands i a
      in_back : slice_get back (i - length front) ≡ Some a → length front ≤ i → Stands i a

    stands : (i : ℕ) (a : Pair) → slice_get (front ++ back) i ≡ Some a → Stands i a
    stands i a at = elim (cases_lt i (length front)) [
      | inl t ↦ in_front (from_front front back i a at t) t
      | inr t ↦ in_back (sym (item_behind front back i t) ∙ at) t
    ]

    each_pair : (i : ℕ) (a : Pair) → Stands i a → IsPair net old new a
    unfolding front
    each_pair i a (in_front at within) = front_pair net old new kept kept_too groups are i a at
    each_pair i a (in_back at past) = is.each (i - length front) a at

    every_prefix : (p : PlainPrefix) → IsPrefix p → IsTrue (says_something net (pair_for old new p)) → (a : Pair) × IsIn (front ++ back) a × (a.cases ≡ pair_for old new p)
    unfolding front
    every_prefix p rules said = elim (cases_Bool (is_originated (pair_for old new p))) [
      | inl t ↦ let found = front_all net old new kept kept_too groups are p t in (found.0, IsIn-append_left front back found.0 found.1, found.2)
      | inr t ↦ elim (or_cases (is_originated (pair_for old new p)) (is_governed (pair_for old new p) && nat_lt 0 (length net.peers)) said) [
        | inl on ↦ absurd (true≢false (sym on ∙ t))
        | inr on ↦ let found = is.all p rules t on in (found.0, IsIn-append_right front back found.0 found.1, found.2)
      ]
    ]

    all_apart : (i j : ℕ) (a b : Pair) → i < j → Stands i a → Stands j b → a.cases ≢ b.cases
    unfolding front
    all_apart i j a b less (in_front at_a within) (in_front at_b within_too) same = front_apart i j a b less at_a at_b same
    all_apart i j a b less (in_front at_a within) (in_back at_b past) same =
        absurd (true≢false (sym (front_originated net old new kept kept_too groups are i a at_a) ∙ ap is_originated same ∙ is.outside (j - length front) b at_b))
    all_apart i j a b less (in_back at_a past) (in_front at_b within) same = absurd (omega (arith, less, past, within))
    all_apart i j a b less (in_back at_a past) (in_back at_b past_too) same =
        is.apart (i - length front) (j - length front) a b (omega (arith, less, past, past_too)) at_a at_b same

    in_order : (i j : ℕ) (a b : Pair) → i < j → Stands i a → Stands j b → ComesBefore old new a a.prefixes b b.prefixes
    unfolding front
    in_order i j a b less (in_front at_a within) (in_front at_b within_too) = front_order net old new kept kept_too groups are i j a b less at_a at_b
    in_order i j a b less (in_front at_a within) (in_back at_b past) =
        subst₂ (λ (x y : PairPrefixes). ComesBefore old new a x b y) (ap (λ (c : Pair). c.prefixes) (sym (front_at net old new kept kept_too groups are i a at_a).1)) (sym (is.told (j - length front) b at_b).1) tt
    in_order i j a b less (in_back at_a past) (in_front at_b within) = absurd (omega (arith, less, past, within))
    in_order i j a b less (in_back at_a past) (in_back at_b past_too) =
        is.order (i - length front) (j - length front) a b (omega (arith, less, past, past_too)) at_a at_b

  pairs_are : (groups : List Group) → AreGroups old new (originated_prefixes old new) groups → (others : List Group) → AreTheOthers others
      → ArePairs net old new (map originated_pair groups ++ map (other_pair old new) others)
  unfolding front
  pairs_are groups are others there =
      let back = map (other_pair old new) others in
      let is = back_is others there in
      record {
        each = λ a at. each_pair groups are back is at.0 a (stands groups are back is at.0 a at.1);
        all = every_prefix groups are back is;
        apart = λ i j a b less at_a at_b. all_apart groups are back is i j a b less (stands groups are back is i a at_a) (stands groups are back is j b at_b);
        order = λ i j a b less at_a at_b. in_order groups are back is i j a b less (stands groups are back is i a at_a) (stands groups are back is j b at_b);
      }

  -- with peers, and without
  pub pairs_with_peers : (groups : List Group) → AreGroups old new (originated_prefixes old new) groups → (others : List Group) → 0 < length net.peers → AreOtherGroups old new others
      → ArePairs net old new (map originated_pair groups ++ map (other_pair old new) others)
  unfolding AreTheOthers
  pairs_with_peers groups are others peers there = pairs_are groups are others (inl (lt-ltb 0 (length net.peers) peers, there))

  pub pairs_without_peers : (groups : List Group) → AreGroups old new (originated_prefixes old new) groups → length net.peers ≤ 0
      → ArePairs net old new (map originated_pair groups)
  unfolding AreTheOthers
  pairs_without_peers groups are none =
      subst (ArePairs net old new) (append-nil (map originated_pair groups)) (pairs_are groups are [] (inr (le-ltb 0 (length net.peers) none, refl)))
