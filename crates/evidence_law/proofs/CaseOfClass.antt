-- What the class of a prefix says of its statement and its origins.
use Rattle.std.proofs.Common.{◌≡◌, ℕ, suc, ◌+◌, Bool, true, false, List, [], length, Option, Some, None, refl, arith, sym, ap, ◌∙◌, inl, inr, subst}
use Rattle.std.specs.Prelude.{◌&&◌, ◌⊎◌, ◌==◌, nat_le, slice_get, if◌then◌else◌}
use Rattle.std.proofs.lemmas.Bool.{and_parts, and_from, and_right, cases_Bool, cases_lt, eqb-true, eq-eqb, ltb-true, le-ltb, lt-leb, true≢false, false_from_ne_true}
use Rattle.std.proofs.lemmas.Option.{same_Some}
use Rattle.net_base.specs.declared.loc.LocSet.{LocSet}
use Rattle.net_base.specs.Network.{PlainNet, IsNet, is_location, is_peer, is_router}
use Rattle.net_base.specs.Sets.{holds, set_of}
use Rattle.net_base.specs.Prefixes.{PlainPrefix, IsPrefix, same_prefix}
use Rattle.net_base.proofs.SetOf.{holds-set_of, holds-set_of_past}
use Rattle.policy_base.specs.declared.policy.Origin.{Origin}
use Rattle.policy_base.specs.declared.case.Case.{Case}
use Rattle.policy_base.specs.Policies.{PlainPolicy, PlainStatement, statement_at, IsPolicyOf}
use Rattle.policy_base.specs.Governing.{governing, governing_from, statement_of, originated_at, is_origin, is_origin_by}
use Rattle.policy_base.specs.Cases.{case_list, originated_cases, external_cases}
use Rattle.list_law.specs.Members.{IsIn}
use Rattle.list_law.proofs.Items.{same_item, slice_get_behind, slice_get_in_front}
use Rattle.list_law.proofs.Each.{AllByRecursion_at}
use Rattle.list_law.proofs.Keys.{place_by_key}
use Rattle.list_law.proofs.Options.{cases_Option}
use Rattle.net_base.proofs.RoutersAndPeers.{router_no_peer, router_known}
use Rattle.evidence_law.proofs.CaseLists.{IsOriginatedCase, originated_are}
use Rattle.evidence_law.proofs.ClassFound.{Names, names_each, class_in, originated_by, originated_some, class_named, class_passed}
use Rattle.evidence_law.proofs.ExternalFound.{statement_number, ungoverned, Known, external_of, class_none, class_external}

-- what the case of a prefix is
pub record IsCaseOf (net : PlainNet) (policy : PlainPolicy) (p : PlainPrefix) (s : PlainStatement) (k : ℕ) (c : Case) : Type 0 where
  pub at : slice_get (case_list net policy) k ≡ Some c
  pub number : statement_at policy c.statement ≡ Some s
  pub same : holds c.origins ≡ is_origin net policy p
  pub known : (l : ℕ) → holds c.origins l ≡ true → is_location net l ≡ true
  pub announced : (v : ℕ) → is_router net v ≡ true → holds c.origins v ≡ true → IsIn c.prefixes p

-- the set of the peers holds them
holds_peers : (net : PlainNet) → IsNet net → holds (set_of (is_peer net)) ≡ is_peer net
holds_peers net rules = λ i. λ l. at l i
  where
    at : (l : ℕ) → holds (set_of (is_peer net)) l ≡ is_peer net l
    at l = elim (cases_lt l 768) [
      | inl in_reach ↦ holds-set_of (is_peer net) l in_reach
      | inr past ↦ holds-set_of_past (is_peer net) l past
          ∙ sym (false_from_ne_true (is_peer net l)
          (λ h. absurd (omega (arith, past, ltb-true l (length net.routers + length net.peers) (and_parts (nat_le (length net.routers) l) (is_location net l) h).1, rules.routers, rules.peers))))
    ]

one_more : (o : Option ℕ) (n m : ℕ) → o ≡ Some (1 + n) → n ≡ m → o ≡ Some (suc m)
one_more o n m h same = h ∙ ap Some (omega (arith, same))

module _ (net : PlainNet) (policy : PlainPolicy) (p : PlainPrefix) (rules : IsNet net) (kept : IsPolicyOf net policy) (prefix : IsPrefix p) where
  abbrev inner : List Case
  inner = originated_cases policy policy.origins []

  abbrev outer : List Case
  outer = if length net.peers == 0 then [] else external_cases net policy 1 policy.statements

  known_statements : Known net policy p 1 policy.statements
  unfolding Known
  known_statements i s at = let same : 1 + i ≡ suc i = omega arith in (ap (statement_at policy) same ∙ at, λ t h. kept.patterns s t (i, at) h)

  -- two items for one prefix are one
  one_origin : (o x : Origin) → IsIn policy.origins o → IsIn policy.origins x → o.prefix ≡ x.prefix → o ≡ x
  one_origin o x (i, at) (j, there) same =
      let place = place_by_key same_prefix (λ (y : Origin). y.prefix) policy.origins i j o x kept.rules.once at there (prefix_same o.prefix x.prefix same) (prefix_same x.prefix o.prefix (sym same)) in
      same_item policy.origins i j o x at there place
    where
      prefix_same : (a b : PlainPrefix) → a ≡ b → same_prefix a b ≡ true
      prefix_same a b h = and_from (a.bits == b.bits) (a.len == b.len) (eq-eqb _ _ (ap (λ (q : PlainPrefix). q.bits) h)) (eq-eqb _ _ (ap (λ (q : PlainPrefix). q.len) h))

  -- the class of an originated prefix that is governed
  inner_case : (s : PlainStatement) (at : LocSet) → statement_of policy p ≡ Some s → originated_at policy.origins p ≡ Some at
      → (k : ℕ) × (c : Case) × (class_in policy p (case_list net policy) 1 ≡ Some (suc k)) × IsCaseOf net policy p s k c
  inner_case s at governed originated =
      let number = statement_number policy.statements p 1 s governed in
      let item = originated_by policy.origins p at originated in
      let names : Names inner p = subst (Names inner) item.2 (names_each policy policy.origins [] item.1.0 (1 + number.0) item.0 item.1.1 (ap (governing policy) item.2 ∙ number.1)) in
      let found = class_named policy p prefix kept.prefixes inner outer 1 (originated_are policy) names in
      let c = found.1 in
      let of_case = AllByRecursion_at (IsOriginatedCase policy) inner found.0 c (originated_are policy) found.3 in
      let back = of_case.each p found.4 in
      let statement : c.statement ≡ suc number.0 = same_Some c.statement (suc number.0) (sym back.3 ∙ one_more (governing policy p) number.0 number.0 number.1 refl) in
      let one = one_origin back.0 item.0 back.1 item.1 (back.2 ∙ sym item.2) in
      let origins : c.origins ≡ at = sym back.4 ∙ ap (λ (o : Origin). o.at) one ∙ item.3 in
      let same : holds c.origins ≡ is_origin net policy p = ap holds origins ∙ sym (ap (is_origin_by net) originated) in
      let routers : (l : ℕ) → holds c.origins l ≡ true → is_router net l ≡ true = λ l h. kept.routers back.0 l back.1 (ap (λ (x : LocSet). holds x l) back.4 ∙ h) in (
        found.0,
        c,
        one_more (class_in policy p (case_list net policy) 1) found.0 found.0 found.2 refl,
        record {
          at = slice_get_in_front inner outer found.0 c found.3;
          number = ap (statement_at policy) statement ∙ number.2;
          same = same;
          known = λ l h. router_known net l (routers l h);
          announced = λ v router h. found.4;
        },
      )

  outside : (c : Case) → originated_at policy.origins p ≡ None → IsOriginatedCase policy c → IsIn c.prefixes p → ⊥
  outside c none of_case name =
      let item = of_case.each p name in
      let some = originated_some policy.origins item.0 p item.1 item.2 in
      let clash : Some some.0 ≡ None = sym some.1 ∙ none in
      absurd cc

  passed : originated_at policy.origins p ≡ None → class_in policy p (case_list net policy) 1 ≡ class_in policy p outer (1 + length inner)
  passed none = class_passed policy p prefix kept.prefixes inner outer 1 (originated_are policy) (λ c of_case name. outside c none of_case name)

  -- the class of another prefix that is governed, where the network has a peer
  outer_case : (s : PlainStatement) → statement_of policy p ≡ Some s → originated_at policy.origins p ≡ None → (length net.peers == 0) ≡ false
      → (k : ℕ) × (c : Case) × (class_in policy p (case_list net policy) 1 ≡ Some (suc k)) × IsCaseOf net policy p s k c
  outer_case s governed none some =
      let number = statement_number policy.statements p 1 s governed in
      let found = class_external net policy p prefix none 1 (1 + length inner) (1 + number.0) policy.statements known_statements number.1 in
      let ext : outer ≡ external_cases net policy 1 policy.statements = rw some refl in
      let class = passed none ∙ ap (λ cs. class_in policy p cs (1 + length inner)) ext ∙ found.1 in
      let place : 1 + length inner + found.0 ≡ suc (length inner + found.0) = omega arith in
      let there = slice_get_behind inner outer found.0 (external_of net policy p (1 + number.0)) (ap (λ cs. slice_get cs found.0) ext ∙ found.2) in
      let next : 1 + number.0 ≡ suc number.0 = omega arith in (
        length inner + found.0,
        external_of net policy p (1 + number.0),
        class ∙ ap Some place,
        record {
          at = there;
          number = ap (statement_at policy) next ∙ number.2;
          same = holds_peers net rules ∙ sym (ap (is_origin_by net) none);
          known = λ l h. (and_parts (nat_le (length net.routers) l) (is_location net l) (sym (ap (λ (o : ℕ → Bool). o l) (holds_peers net rules)) ∙ h)).1;
          announced = λ v router h. absurd (true≢false (sym h ∙ ap (λ (o : ℕ → Bool). o v) (holds_peers net rules) ∙ router_no_peer net v router));
        },
      )

  -- Where a statement governs the prefix it has a class with its case, or nobody in the network is an origin and it has none.
  pub governed_case : (s : PlainStatement) → statement_of policy p ≡ Some s
      → ((k : ℕ) × (c : Case) × (class_in policy p (case_list net policy) 1 ≡ Some (suc k)) × IsCaseOf net policy p s k c)
      ⊎ (((l : ℕ) → is_origin net policy p l ≡ false) × (class_in policy p (case_list net policy) 1 ≡ None))
  unfolding class_in
  governed_case s governed = elim (cases_Option (originated_at policy.origins p)) [
    | inr o ↦ inl (inner_case s o.0 governed o.1)
    | inl none ↦ elim (cases_Bool (length net.peers == 0)) [
      | inr some ↦ inl (outer_case s governed none some)
      | inl empty ↦ inr (λ l. ap (λ (o : Option LocSet). is_origin_by net o l) none ∙ no_peer l (eqb-true _ _ empty), nobody none empty)
    ]
  ]
    where
      no_peer : (l : ℕ) → length net.peers ≡ 0 → is_peer net l ≡ false
      no_peer l empty = elim (cases_lt l (length net.routers)) [
        | inl t ↦ ap (λ b. b && is_location net l) (lt-leb _ _ t)
        | inr t ↦ and_right (nat_le (length net.routers) l) (is_location net l) (le-ltb l (length net.routers + length net.peers) (omega (arith, t, empty)))
      ]

      nobody : originated_at policy.origins p ≡ None → (length net.peers == 0) ≡ true → class_in policy p (case_list net policy) 1 ≡ None
      nobody none empty =
          let ext : outer ≡ [] = rw empty refl in
          passed none ∙ ap (λ cs. class_in policy p cs (1 + length inner)) ext

  -- Where no statement governs it, it has no class.
  pub ungoverned_class : statement_of policy p ≡ None → class_in policy p (case_list net policy) 1 ≡ None
  unfolding class_in
  ungoverned_class free =
      let number = ungoverned policy.statements p 1 free in
      let through = class_passed policy p prefix kept.prefixes inner outer 1 (originated_are policy) (λ c of_case name. clash c number of_case name) in
      through ∙ last number
    where
      clash : (c : Case) → governing policy p ≡ None → IsOriginatedCase policy c → IsIn c.prefixes p → ⊥
      clash c number of_case name = let item = of_case.each p name in let bad : None ≡ Some c.statement = sym number ∙ item.3 in absurd cc

      last : governing_from policy.statements p 1 ≡ None → class_in policy p outer (1 + length inner) ≡ None
      last number = elim (cases_Bool (length net.peers == 0)) [
        | inl t ↦ rw t refl
        | inr t ↦ rw t (class_none net policy p 1 (1 + length inner) policy.statements known_statements number)
      ]
