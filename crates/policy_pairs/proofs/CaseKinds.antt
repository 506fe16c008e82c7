-- The cases of prefixes, and their groups, as one prefix after the other joins.
use Rattle.std.proofs.Common.{◌≡◌, ◌≢◌, ℕ, zero, suc, ◌+◌, ◌<◌, ◌≤◌, true, false, List, [], ◌∷◌, ◌++◌, get_or, length, map, set, sym, ap, ◌∙◌, subst, arith, inl, inr, Some, length-append}
use Rattle.std.specs.Prelude.{filter, option_map, slice_get, if◌then◌else◌}
use Rattle.std.specs.List.{IsDistinct, list_any}
use Rattle.std.proofs.lemmas.Bool.{cases_Bool, cases_lt, true≢false}
use Rattle.std.proofs.lemmas.List.{length-map}
use Rattle.std.proofs.lemmas.Option.{get_or_from_slice_get, slice_get-map, slice_get_within}
use Rattle.list_law.specs.Members.{IsIn}
use Rattle.list_law.proofs.Items.{from_behind, from_front, slice_get-there, slice_get_in_front}
use Rattle.group_law.proofs.Joining.{begun, joined, joined_at, keys_apart, keys_covered}
use Rattle.list_law.proofs.Members.{list_any-from_IsIn}
use Rattle.net_base.specs.Prefixes.{PlainPrefix}
use Rattle.policy_base.specs.Policies.{PlainPolicy}
use Rattle.compare_base.specs.declared.cases.CasePair.{CasePair}
use Rattle.compare_base.specs.Cases.{pair_for}
use Rattle.compare_base.specs.Same.{same_cases}
use Rattle.compare_base.proofs.SameCases.{cases_are, cases_same}
use Rattle.policy_pairs.specs.declared.groups.Group.{Group}
use Rattle.policy_pairs.specs.Pairs.{has_cases}
use Rattle.policy_pairs.specs.Groups.{AreKinds, IsFirstAt, group_for}

module _ (old new : PlainPolicy) where
  first_once : (ps : List PlainPrefix) (k : CasePair) (m n : ℕ) → IsFirstAt old new ps k m → IsFirstAt old new ps k n → m ≡ n
  first_once ps k m n one other = elim (cases_lt m n) [
    | inl t ↦ absurd (other.first m one.prefix t one.at one.has)
    | inr t ↦ elim (cases_lt n m) [
      | inl u ↦ absurd (one.first n other.prefix u other.at other.has)
      | inr u ↦ omega (arith, t, u)
    ]
  ]

  first_within : (ps : List PlainPrefix) (k : CasePair) (m : ℕ) → IsFirstAt old new ps k m → m < length ps
  first_within ps k m is = slice_get_within ps m is.prefix is.at

  module _ (ps : List PlainPrefix) (p : PlainPrefix) where
    first_more : (k : CasePair) (m : ℕ) → IsFirstAt old new ps k m → IsFirstAt old new (ps ++ p ∷ []) k m
    first_more k m is = record {
      prefix = is.prefix;
      at = slice_get_in_front ps (p ∷ []) m is.prefix is.at;
      has = is.has;
      first = λ l q less at. is.first l q less (from_front ps (p ∷ []) l q at (omega (arith, less, first_within ps k m is)));
    }

    first_new : (k : CasePair) → ((q : PlainPrefix) → IsIn ps q → pair_for old new q ≢ k) → pair_for old new p ≡ k → IsFirstAt old new (ps ++ p ∷ []) k (length ps)
    first_new k none has = record {
      prefix = p;
      at = slice_get-there ps p [];
      has = has;
      first = λ l q less at. none q (l, from_front ps (p ∷ []) l q at less);
    }

    module _ (ks : List CasePair) (kinds : AreKinds old new ps ks) (c : CasePair) (has : pair_for old new p ≡ c) where
      each_kept : (i : ℕ) (k : CasePair) → slice_get ks i ≡ Some k → (m : ℕ) × IsFirstAt old new (ps ++ p ∷ []) k m
      each_kept i k at = let first = kinds.each i k at in (first.0, first_more k first.0 first.1)

      order_kept : (i j m n : ℕ) (one other : CasePair) → i < j → slice_get ks i ≡ Some one → slice_get ks j ≡ Some other
          → IsFirstAt old new (ps ++ p ∷ []) one m → IsFirstAt old new (ps ++ p ∷ []) other n → m < n
      order_kept i j m n one other less at_i at_j first_m first_n =
          let a = kinds.each i one at_i in
          let b = kinds.each j other at_j in
          let lt : a.0 < b.0 = kinds.order i j a.0 b.0 one other less at_i at_j a.1 b.1 in
          let same_m : m ≡ a.0 = first_once (ps ++ p ∷ []) one m a.0 first_m (first_more one a.0 a.1) in
          let same_n : n ≡ b.0 = first_once (ps ++ p ∷ []) other n b.0 first_n (first_more other b.0 b.1) in
          omega (arith, lt, same_m, same_n)

      module _ (fresh : list_any (same_cases c) ks ≡ false) where
        not_there : (k : CasePair) → IsIn ks k → same_cases c k ≡ false
        not_there k at = elim (cases_Bool (same_cases c k)) [
          | inl t ↦ absurd (true≢false (sym (list_any-from_IsIn (same_cases c) ks k at t) ∙ fresh))
          | inr t ↦ t
        ]

        not_before : (q : PlainPrefix) → IsIn ps q → pair_for old new q ≢ c
        not_before q at is = absurd (true≢false (sym (cases_same c (pair_for old new q) (sym is)) ∙ not_there (pair_for old new q) (kinds.all q at)))

        last : (i : ℕ) (k : CasePair) → slice_get (ks ++ c ∷ []) i ≡ Some k → length ks ≤ i → k ≡ c
        last i k at past = only (from_behind ks (c ∷ []) i k at past)
          where
            only : (j : ℕ) × (slice_get (c ∷ []) j ≡ Some k) → k ≡ c
            only (zero, there) = cc
            only (suc j, there) = absurd cc

        first_of : (i : ℕ) (k : CasePair) → slice_get (ks ++ c ∷ []) i ≡ Some k → (m : ℕ) × IsFirstAt old new (ps ++ p ∷ []) k m
        first_of i k at = elim (cases_lt i (length ks)) [
          | inl t ↦ let first = kinds.each i k (from_front ks (c ∷ []) i k at t) in (first.0, first_more k first.0 first.1)
          | inr t ↦ (length ps, first_new k (λ q there is. not_before q there (is ∙ last i k at t)) (has ∙ sym (last i k at t)))
        ]

        order_of : (i j m n : ℕ) (one other : CasePair) → i < j → slice_get (ks ++ c ∷ []) i ≡ Some one → slice_get (ks ++ c ∷ []) j ≡ Some other
            → IsFirstAt old new (ps ++ p ∷ []) one m → IsFirstAt old new (ps ++ p ∷ []) other n → m < n
        order_of i j m n one other less at_i at_j first_m first_n =
            let within : j < length ks + 1 = omega (arith, slice_get_within (ks ++ c ∷ []) j other at_j, length-append ks (c ∷ [])) in
            let at_one = from_front ks (c ∷ []) i one at_i (omega (arith, less, within)) in
            let a = kinds.each i one at_one in
            let same_m : m ≡ a.0 = first_once (ps ++ p ∷ []) one m a.0 first_m (first_more one a.0 a.1) in
            elim (cases_lt j (length ks)) [
              | inl t ↦
                  let at_other = from_front ks (c ∷ []) j other at_j t in
                  let b = kinds.each j other at_other in
                  let lt : a.0 < b.0 = kinds.order i j a.0 b.0 one other less at_one at_other a.1 b.1 in
                  omega (arith, lt, same_m, first_once (ps ++ p ∷ []) other n b.0 first_n (first_more other b.0 b.1))
              | inr t ↦
                  let new_n = first_once (ps ++ p ∷ []) other n (length ps) first_n
                  (first_new other (λ q there is. not_before q there (is ∙ last j other at_j t)) (has ∙ sym (last j other at_j t))) in
                  omega (arith, same_m, new_n, first_within ps one a.0 a.1)
            ]

      abbrev made : CasePair → List PlainPrefix → Group
      made k qs = record { cases = k; prefixes = qs }

      longer_is : (if list_any (same_cases c) ks then ks else ks ++ c ∷ []) ≡ (if list_any (same_cases (pair_for old new p)) ks then ks else ks ++ pair_for old new p ∷ [])
      longer_is = ap (λ (d : CasePair). if list_any (same_cases d) ks then ks else ks ++ d ∷ []) (sym has)

      pub kinds_more : AreKinds old new (ps ++ p ∷ []) (if list_any (same_cases c) ks then ks else ks ++ c ∷ [])
      kinds_more = record {
        apart = subst (IsDistinct same_cases) (sym longer_is) (keys_apart same_cases cases_are cases_same (pair_for old new) made ps ks kinds.apart kinds.all p);
        all = λ q at. subst (λ (ds : List CasePair). IsIn ds (pair_for old new q)) (sym longer_is) (keys_covered same_cases cases_are cases_same (pair_for old new) made ps ks kinds.apart kinds.all p q at);
        each = elim (cases_Bool (list_any (same_cases c) ks)) [
          | inl t ↦ rw t each_kept
          | inr t ↦ rw t (first_of t)
        ];
        order = elim (cases_Bool (list_any (same_cases c) ks)) [
          | inl t ↦ rw t order_kept
          | inr t ↦ rw t (order_of t)
        ];
      }

      -- ---- groups

      pub joined_found : (more : List CasePair) (place : ℕ) (k : CasePair) (groups : List Group) (v : Group) (qs : List PlainPrefix)
          → more ≡ (if list_any (same_cases c) ks then ks else ks ++ c ∷ []) → slice_get more place ≡ Some k → same_cases c k ≡ true
          → groups ≡ map (group_for old new ps) ks → place < length groups → v ≡ get_or groups place v → qs ≡ v.prefixes ++ p ∷ []
          → set groups place (record v { prefixes = qs }) ≡ map (group_for old new (ps ++ p ∷ [])) more
      joined_found more place k groups v qs keys at same are within read grown =
          ap (λ gs. set gs place (record v { prefixes = qs })) are ∙ ap (λ g. set (map (group_for old new ps) ks) place g) v_grown
          ∙ joined same_cases cases_are cases_same (pair_for old new) made ps ks kinds.apart kinds.all p more (keys ∙ longer_is) place k at on inside
        where
          inside : place < length ks
          inside = omega (arith, within, ap length are, length-map ks (group_for old new ps))

          on : same_cases (pair_for old new p) k ≡ true
          on = ap (λ d. same_cases d k) has ∙ same

          at_k : slice_get ks place ≡ Some k
          at_k = joined_at same_cases cases_are cases_same (pair_for old new) made ps ks kinds.apart kinds.all p more (keys ∙ longer_is) place k at on inside

          there : slice_get (map (group_for old new ps) ks) place ≡ Some (group_for old new ps k)
          there = slice_get-map (group_for old new ps) ks place ∙ ap (option_map (group_for old new ps)) at_k

          v_is : v ≡ group_for old new ps k
          v_is = read ∙ ap (λ gs. get_or gs place v) are ∙ get_or_from_slice_get (map (group_for old new ps) ks) place (group_for old new ps k) v there

          v_grown : (record v { prefixes = qs }) ≡ made k (filter (has_cases old new k) ps ++ p ∷ [])
          v_grown = ap (λ (w : List PlainPrefix). record v { prefixes = w }) grown ∙ ap (λ (g : Group). record { cases = g.cases; prefixes = g.prefixes ++ p ∷ [] }) v_is

      pub joined_new : (more : List CasePair) (place : ℕ) (k : CasePair) (groups : List Group) (g : Group)
          → more ≡ (if list_any (same_cases c) ks then ks else ks ++ c ∷ []) → slice_get more place ≡ Some k
          → groups ≡ map (group_for old new ps) ks → length groups ≤ place → g ≡ record { cases = c; prefixes = p ∷ [] }
          → groups ++ g ∷ [] ≡ map (group_for old new (ps ++ p ∷ [])) more
      joined_new more place k groups g keys at are past is =
          let g_is : g ≡ record { cases = pair_for old new p; prefixes = p ∷ [] } = is ∙ ap (λ (d : CasePair). record { cases = d; prefixes = p ∷ [] }) (sym has) in
          let beyond : length ks ≤ place = omega (arith, past, ap length are, length-map ks (group_for old new ps)) in
          ap (λ gs. gs ++ g ∷ []) are ∙ ap (λ (h : Group). map (group_for old new ps) ks ++ h ∷ []) g_is
          ∙ begun same_cases cases_are cases_same (pair_for old new) made ps ks kinds.apart kinds.all p more (keys ∙ longer_is) place k at beyond

  pub kinds_none : AreKinds old new [] []
  unfolding IsDistinct
  kinds_none = record {
    apart = tt;
    all = λ p at. absurd (nothing at);
    each = λ i k at. absurd (none i k at);
    order = λ i j m n one other less at. absurd (none i one at);
  }
    where
      nothing : {p : PlainPrefix} → IsIn [] p → ⊥
      nothing (i, at) = cc

      none : (i : ℕ) (k : CasePair) → slice_get [] i ≡ Some k → ⊥
      none i k at = cc
