-- The groups of the least of the other prefixes are pairs, in order.
use Rattle.std.proofs.Common.{◌≡◌, ◌≢◌, ℕ, ◌<◌, ◌≤◌, Bool, true, false, List, length, map, refl, sym, ap, ap₂, ◌∙◌, subst, subst₂, arith, ◌-◌, Some}
use Rattle.std.specs.Prelude.{is_some, nat_lt, slice_get, ◌&&◌, ◌||◌, IsTrue}
use Rattle.std.specs.List.{IsDistinct}
use Rattle.std.proofs.lemmas.List.Sorted.{Contains-permutation, IsPermutation-map, IsPermutation-sym}
use Rattle.std.proofs.lemmas.Map.Keys.{IsDistinct-IsPermutation}
use Rattle.std.proofs.lemmas.Option.{slice_get-map}
use Rattle.list_law.specs.Members.{IsIn}
use Rattle.list_law.proofs.Keys.{place_by_key}
use Rattle.list_law.proofs.Members.{Contains-from_IsIn, IsIn-from_Contains, IsIn-map}
use Rattle.list_law.proofs.Options.{is_some_from, is_some_parts, option_map_parts}
use Rattle.net_base.specs.Network.{PlainNet}
use Rattle.net_base.specs.Prefixes.{IsPrefix, PlainPrefix}
use Rattle.policy_base.specs.Policies.{IsPolicyOf, PlainPolicy}
use Rattle.policy_base.specs.Governing.{governing}
use Rattle.least_prefixes.specs.Classes.{class_for}
use Rattle.compare_base.specs.declared.cases.CasePair.{CasePair}
use Rattle.compare_base.specs.declared.pairs.Pair.{Pair}
use Rattle.compare_base.specs.Cases.{is_governed, is_originated, pair_for}
use Rattle.compare_base.specs.Same.{same_cases}
use Rattle.compare_base.proofs.SameCases.{cases_same, cases_turned}
use Rattle.policy_pairs.specs.declared.groups.Group.{Group}
use Rattle.policy_pairs.specs.Groups.{AreOtherGroups, IsNoLater, group_for, other_pair}
use Rattle.policy_pairs.specs.Pairs.{ArePrefixes, ComesBefore, IsPair}
use Rattle.policy_pairs.proofs.PairFacts.{governing_few, strictly}
use Rattle.policy_pairs.proofs.PairClasses.{class_some, governed, group_at, map_cases, no_item, outside, same_class_cases}

module _ (net : PlainNet) (old new : PlainPolicy) (kept : IsPolicyOf net old) (kept_too : IsPolicyOf net new) where
  -- those of the others
  module _ (groups : List Group) (are : AreOtherGroups old new groups) where
    abbrev pub kinds : List CasePair
    kinds = are.are.are.0

    -- each group as it was before the groups were put in turn
    moved_at : (g : Group) → IsIn groups g → (i : ℕ) × (slice_get are.are.found i ≡ Some g)
    moved_at g at =
        IsIn-from_Contains are.are.found g
        (Contains-permutation groups are.are.found g (IsPermutation-sym are.are.found groups are.are.moved) (Contains-from_IsIn groups g at))

    pub back_at : (i : ℕ) (a : Pair) → slice_get (map (other_pair old new) groups) i ≡ Some a
        → (g : Group) × (slice_get groups i ≡ Some g) × (g.cases ≡ a.cases) × (a ≡ other_pair old new (group_for old new are.least a.cases)) × IsIn kinds a.cases
    back_at i a at =
        let found = option_map_parts (other_pair old new) (slice_get groups i) a (sym (slice_get-map (other_pair old new) groups i) ∙ at) in
        let there = moved_at found.0 (i, found.1) in
        let group = group_at net old new kept kept_too are.least are.are.found are.are.are.0 there.0 found.0 are.are.are.2 there.1 in
        let same : found.0.cases ≡ a.cases = ap (λ (b : Pair). b.cases) found.2 in (
          found.0,
          found.1,
          same,
          sym found.2 ∙ ap (other_pair old new) group.1 ∙ ap (λ k. other_pair old new (group_for old new are.least k)) same,
          (there.0, group.0 ∙ ap Some same),
        )

    back_class : (a : Pair) → IsIn kinds a.cases → (p : PlainPrefix) × IsPrefix p × (pair_for old new p ≡ a.cases) × (is_some (class_for old new p) ≡ true)
    back_class a at =
        let first = are.are.are.1.each at.0 a.cases at.1 in
        let there : IsIn are.least first.1.prefix = (first.0, first.1.at) in
        let class = are.are_least.classed first.1.prefix there in
        (first.1.prefix, are.are_least.each first.1.prefix there, first.1.has, is_some_from (class_for old new first.1.prefix) class.0 class.1)

    pub back_outside : (i : ℕ) (a : Pair) → slice_get (map (other_pair old new) groups) i ≡ Some a → is_originated a.cases ≡ false
    back_outside i a at =
        let class = back_class a (back_at i a at).4 in
        ap is_originated (sym class.2) ∙ (outside net old new kept kept_too class.0 class.3).0

    pub back_pair : IsTrue (nat_lt 0 (length net.peers)) → (i : ℕ) (a : Pair) → slice_get (map (other_pair old new) groups) i ≡ Some a → IsPair net old new a
    back_pair peers i a at =
        let class = back_class a (back_at i a at).4 in
        let off = back_outside i a at in
        let on : is_governed a.cases ≡ true = ap is_governed (sym class.2) ∙ governed net old new kept kept_too class.0 class.3 in
        record {
          has = (class.0, class.1, class.2);
          said = ap₂ (λ (o g : Bool). o || (g && nat_lt 0 (length net.peers))) off on ∙ peers;
          told = subst (λ (b : Pair). ArePrefixes old new a.cases b.prefixes) (sym (back_at i a at).3) (off, (are.least, are.are_least, refl));
        }

    pub back_all : (p : PlainPrefix) → IsPrefix p → is_originated (pair_for old new p) ≡ false → is_governed (pair_for old new p) ≡ true
        → (a : Pair) × IsIn (map (other_pair old new) groups) a × (a.cases ≡ pair_for old new p)
    back_all p rules off on =
        let some = class_some net old new kept kept_too p off on in
        let class = is_some_parts (class_for old new p) some in
        let cover = are.are_least.covered p class.0 rules class.1 in
        let same : pair_for old new cover.0 ≡ pair_for old new p = same_class_cases net old new kept kept_too cover.0 p (cover.2 ∙ sym class.1) some in
        let k = pair_for old new cover.0 in
        let before = subst (λ gs. IsIn gs (group_for old new are.least k)) (sym are.are.are.2) (IsIn-map (group_for old new are.least) are.are.are.0 k (are.are.are.1.all cover.0 cover.1)) in
        let member = IsIn-from_Contains groups (group_for old new are.least k)
        (Contains-permutation are.are.found groups (group_for old new are.least k) are.are.moved (Contains-from_IsIn are.are.found (group_for old new are.least k) before)) in
        (other_pair old new (group_for old new are.least k), IsIn-map (other_pair old new) groups (group_for old new are.least k) member, same)

    distinct : IsDistinct same_cases (map (λ (g : Group). g.cases) groups)
    distinct =
        IsDistinct-IsPermutation same_cases cases_turned (map (λ (g : Group). g.cases) are.are.found) (map (λ (g : Group). g.cases) groups)
        (IsPermutation-map (λ (g : Group). g.cases) are.are.found groups are.are.moved)
        (subst (IsDistinct same_cases) (sym (ap (map (λ (g : Group). g.cases)) are.are.are.2 ∙ map_cases net old new kept kept_too are.least are.are.are.0)) are.are.are.1.apart)

    pub back_apart : (i j : ℕ) (a b : Pair) → i < j → slice_get (map (other_pair old new) groups) i ≡ Some a → slice_get (map (other_pair old new) groups) j ≡ Some b → a.cases ≢ b.cases
    back_apart i j a b less at_a at_b same =
        let one = back_at i a at_a in
        let other = back_at j b at_b in
        let one_is : one.0.cases ≡ other.0.cases = one.2 ∙ same ∙ sym other.2 in
        let place = place_by_key same_cases (λ (g : Group). g.cases) groups i j one.0 other.0 distinct one.1 other.1
        (cases_same one.0.cases other.0.cases one_is) (cases_same other.0.cases one.0.cases (sym one_is)) in
        absurd (omega (arith, less, place))

    -- a statement has a number that is no greater than its count
    back_few : (a : Pair) → IsIn kinds a.cases → ((k : ℕ) → a.cases.old.statement ≡ Some k → k < 4294967295) × ((k : ℕ) → a.cases.new.statement ≡ Some k → k < 4294967295)
    back_few a at =
        let class = back_class a at in (
          λ k is. few old kept class.0 k (ap (λ (d : CasePair). d.old.statement) class.2 ∙ is),
          λ k is. few new kept_too class.0 k (ap (λ (d : CasePair). d.new.statement) class.2 ∙ is),
        )
      where
        few : (policy : PlainPolicy) → IsPolicyOf net policy → (p : PlainPrefix) (k : ℕ) → governing policy p ≡ Some k → k < 4294967295
        few policy known p k is = let most = governing_few policy.statements p 1 k is in let limit : length policy.statements ≤ 256 = known.rules.statements in omega (arith, most, limit)

    pub back_order : (i j : ℕ) (a b : Pair) → i < j → slice_get (map (other_pair old new) groups) i ≡ Some a → slice_get (map (other_pair old new) groups) j ≡ Some b
        → ComesBefore old new a a.prefixes b b.prefixes
    back_order i j a b less at_a at_b =
        let one = back_at i a at_a in
        let other = back_at j b at_b in
        let turn : IsNoLater a.cases b.cases = subst₂ IsNoLater one.2 other.2 (are.are.turns i j one.0 other.0 less one.1 other.1) in
        let few_a = back_few a one.4 in
        let few_b = back_few b other.4 in
        let no_origins : (a.cases.old.origins ≡ b.cases.old.origins) × (a.cases.new.origins ≡ b.cases.new.origins) = bare a b one.4 other.4 in
        subst₂ (λ (x y : Pair). ComesBefore old new a x.prefixes b y.prefixes) (sym one.3) (sym other.3)
        (strictly a.cases b.cases few_a.0 few_b.0 few_a.1 few_b.1 turn (λ old_same new_same. back_apart i j a b less at_a at_b (
        λ i. record { old = record { statement = old_same i; origins = no_origins.0 i }; new = record { statement = new_same i; origins = no_origins.1 i } })))
      where
        bare : (x y : Pair) → IsIn kinds x.cases → IsIn kinds y.cases → (x.cases.old.origins ≡ y.cases.old.origins) × (x.cases.new.origins ≡ y.cases.new.origins)
        bare x y at_x at_y =
            let one = back_class x at_x in
            let other = back_class y at_y in
            let none = no_item net old new kept kept_too one.0 (outside net old new kept kept_too one.0 one.3).0 in
            let none_too = no_item net old new kept kept_too other.0 (outside net old new kept kept_too other.0 other.3).0 in (
              ap (λ (d : CasePair). d.old.origins) (sym one.2) ∙ none.0 ∙ sym none_too.0 ∙ ap (λ (d : CasePair). d.old.origins) other.2,
              ap (λ (d : CasePair). d.new.origins) (sym one.2) ∙ none.1 ∙ sym none_too.1 ∙ ap (λ (d : CasePair). d.new.origins) other.2,
            )
