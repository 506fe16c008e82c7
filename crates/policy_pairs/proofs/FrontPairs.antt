-- The groups of originated prefixes are pairs, in order.
use Rattle.std.proofs.Common.{◌≡◌, ℕ, ◌<◌, true, List, length, map, refl, sym, ap, ◌∙◌, subst, subst₂, ◌-◌, Some}
use Rattle.std.specs.Prelude.{nat_lt, slice_get, ◌&&◌, ◌||◌}
use Rattle.std.proofs.lemmas.Option.{slice_get-map}
use Rattle.list_law.specs.Members.{IsIn}
use Rattle.list_law.proofs.Members.{IsIn-map}
use Rattle.list_law.proofs.Options.{option_map_parts}
use Rattle.net_base.specs.Network.{PlainNet}
use Rattle.net_base.specs.Prefixes.{PlainPrefix}
use Rattle.policy_base.specs.Policies.{IsPolicyOf, PlainPolicy}
use Rattle.compare_base.specs.declared.pairs.Pair.{Pair}
use Rattle.compare_base.specs.Cases.{is_governed, is_originated, pair_for}
use Rattle.policy_pairs.specs.declared.groups.Group.{Group}
use Rattle.policy_pairs.specs.Groups.{AreGroups, IsFirstAt, group_for, originated_pair}
use Rattle.policy_pairs.specs.Pairs.{ArePrefixes, ComesBefore, IsPair, originated_prefixes}
use Rattle.policy_pairs.proofs.PairClasses.{are_originated, first_in_group, group_at, originated_are}

module _ (net : PlainNet) (old new : PlainPolicy) (kept : IsPolicyOf net old) (kept_too : IsPolicyOf net new) where
  -- those of originated prefixes
  module _ (groups : List Group) (are : AreGroups old new (originated_prefixes old new) groups) where
    abbrev pub all : List PlainPrefix
    all = originated_prefixes old new

    pub front_at : (i : ℕ) (a : Pair) → slice_get (map originated_pair groups) i ≡ Some a → (slice_get are.0 i ≡ Some a.cases) × (a ≡ originated_pair (group_for old new all a.cases))
    front_at i a at =
        let found = option_map_parts originated_pair (slice_get groups i) a (sym (slice_get-map originated_pair groups i) ∙ at) in
        let group = group_at net old new kept kept_too all groups are.0 i found.0 are.2 found.1 in
        let same : found.0.cases ≡ a.cases = ap (λ (b : Pair). b.cases) found.2 in
        (group.0 ∙ ap Some same, sym found.2 ∙ ap originated_pair group.1 ∙ ap (λ k. originated_pair (group_for old new all k)) same)

    pub first_of : (i : ℕ) (a : Pair) → slice_get (map originated_pair groups) i ≡ Some a → (m : ℕ) × IsFirstAt old new all a.cases m
    first_of i a at = are.1.each i a.cases (front_at i a at).0

    pub front_pair : (i : ℕ) (a : Pair) → slice_get (map originated_pair groups) i ≡ Some a → IsPair net old new a
    front_pair i a at =
        let first = (first_of i a at).1 in
        let item = originated_are net old new kept kept_too first.prefix ((first_of i a at).0, first.at) in
        let is : is_originated a.cases ≡ true = ap is_originated (sym first.has) ∙ item.1 in
        record {
          has = (first.prefix, item.0, first.has);
          said = ap (λ b. b || (is_governed a.cases && nat_lt 0 (length net.peers))) is;
          told = subst (λ (b : Pair). ArePrefixes old new a.cases b.prefixes) (sym (front_at i a at).1) (is, refl);
        }

    pub front_originated : (i : ℕ) (a : Pair) → slice_get (map originated_pair groups) i ≡ Some a → is_originated a.cases ≡ true
    front_originated i a at =
        let first = (first_of i a at).1 in
        ap is_originated (sym first.has) ∙ (originated_are net old new kept kept_too first.prefix ((first_of i a at).0, first.at)).1

    pub front_all : (p : PlainPrefix) → is_originated (pair_for old new p) ≡ true → (a : Pair) × IsIn (map originated_pair groups) a × (a.cases ≡ pair_for old new p)
    front_all p is =
        let k = are.1.all p (are_originated net old new kept kept_too p is) in
        let member = IsIn-map originated_pair groups (group_for old new all (pair_for old new p))
        (subst (λ gs. IsIn gs (group_for old new all (pair_for old new p))) (sym are.2) (IsIn-map (group_for old new all) are.0 (pair_for old new p) k)) in
        (originated_pair (group_for old new all (pair_for old new p)), member, refl)

    pub front_order : (i j : ℕ) (a b : Pair) → i < j → slice_get (map originated_pair groups) i ≡ Some a → slice_get (map originated_pair groups) j ≡ Some b
        → ComesBefore old new a a.prefixes b b.prefixes
    front_order i j a b less at_a at_b =
        let one = first_of i a at_a in
        let other = first_of j b at_b in
        let order = are.1.order i j one.0 other.0 a.cases b.cases less (front_at i a at_a).0 (front_at j b at_b).0 one.1 other.1 in
        subst₂ (λ (x y : Pair). ComesBefore old new a x.prefixes b y.prefixes) (sym (front_at i a at_a).1) (sym (front_at j b at_b).1) (record {
          one = one.1.prefix;
          other = other.1.prefix;
          is_first = first_in_group net old new kept kept_too all a.cases one.0 one.1;
          is_other_first = first_in_group net old new kept kept_too all b.cases other.0 other.1;
          places = (one.0, other.0, order, one.1.at, other.1.at);
        })
