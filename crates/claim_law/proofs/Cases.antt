-- The case that names an originated prefix is the only one that does.
use Rattle.std.proofs.Common.{◌≡◌, ℕ, zero, suc, ◌+◌, true, false, List, [], ◌∷◌, length, Option, Some, None, refl, sym, ap, ◌∙◌, inl, inr}
use Rattle.std.specs.Prelude.{◌&&◌, ◌==◌, not, slice_get, if◌then◌else◌}
use Rattle.std.specs.List.{AllByRecursion, list_any}
use Rattle.std.proofs.lemmas.Bool.{and_from, cases_Bool, cases_lt, eq-eqb, true≢false}
use Rattle.std.proofs.lemmas.Option.{same_Some}
use Rattle.std.proofs.lemmas.Slice.Eq.{bytes_eq-Decides}
use Rattle.list_law.specs.Members.{IsIn}
use Rattle.list_law.proofs.Each.{AllByRecursion_at}
use Rattle.list_law.proofs.Items.{from_behind, from_front}
use Rattle.list_law.proofs.Keys.{place_by_key}
use Rattle.net_base.specs.declared.loc.LocSet.{LocSet}
use Rattle.net_base.specs.Network.{PlainNet}
use Rattle.net_base.specs.Sets.{same_set}
use Rattle.net_base.specs.Prefixes.{PlainPrefix, same_prefix}
use Rattle.policy_base.specs.declared.case.Case.{Case}
use Rattle.policy_base.specs.declared.policy.Origin.{Origin}
use Rattle.policy_base.specs.Policies.{PlainPolicy, PlainStatement, IsPolicy}
use Rattle.policy_base.specs.Governing.{governing}
use Rattle.policy_base.specs.Cases.{case_list, external_cases, is_originated, originated_cases, with_governed, with_prefix}
use Rattle.evidence_law.proofs.CaseLists.{IsOriginatedCase, originated_are}

-- ---- no two cases of originated prefixes have one statement and the same origins

-- the case has another statement, or other origins
Differs : ℕ → LocSet → Case → Type 0
Differs k at c = c.statement ≡ k → c.origins ≡ at → ⊥

Apart : List Case → Type 0
Apart [] = Unit {0}
Apart (c ∷ cs) = AllByRecursion (Differs c.statement c.origins) cs × Apart cs

-- what fails the test of statement and origins differs
differs : (k : ℕ) (at : LocSet) (c : Case) → (c.statement == k && same_set c.origins at) ≡ false → Differs k at c
unfolding Differs
differs k at c off number origins =
    let words : c.origins.words ≡ at.words = ap (λ (s : LocSet). s.words) origins in
    true≢false (sym (and_from _ _ (eq-eqb c.statement k number) ((bytes_eq-Decides c.origins.words at.words).1 words)) ∙ off)

others_kept : (j : ℕ) (at : LocSet) (k : ℕ) (o : Origin) (cs : List Case) → (j ≡ k → at ≡ o.at → ⊥) → AllByRecursion (Differs j at) cs → AllByRecursion (Differs j at) (with_prefix k o cs)
unfolding Differs
others_kept j at k o [] apart all = (λ number origins. apart (sym number) (sym origins), tt)
others_kept j at k o (c ∷ cs) apart all = elim (cases_Bool (c.statement == k && same_set c.origins o.at)) [
  | inl t ↦ rw t (all.0, all.1)
  | inr t ↦ rw t (all.0, others_kept j at k o cs apart all.1)
]

apart_kept : (k : ℕ) (o : Origin) (cs : List Case) → Apart cs → Apart (with_prefix k o cs)
unfolding Apart Differs
apart_kept k o [] all = (tt, tt)
apart_kept k o (c ∷ cs) all = elim (cases_Bool (c.statement == k && same_set c.origins o.at)) [
  | inl t ↦ rw t (all.0, all.1)
  | inr t ↦ rw t (others_kept c.statement c.origins k o cs (differs k o.at c t) all.0, apart_kept k o cs all.1)
]

governed_apart : (g : Option ℕ) (o : Origin) (cs : List Case) → Apart cs → Apart (with_governed g o cs)
governed_apart None o cs all = all
governed_apart (Some k) o cs all = apart_kept k o cs all

originated_apart : (policy : PlainPolicy) (os : List Origin) (cs : List Case) → Apart cs → Apart (originated_cases policy os cs)
originated_apart policy [] cs all = all
originated_apart policy (o ∷ os) cs all = originated_apart policy os (with_governed (governing policy o.prefix) o cs) (governed_apart (governing policy o.prefix) o cs all)

one_place : (cs : List Case) (i j : ℕ) (c d : Case) → Apart cs → slice_get cs i ≡ Some c → slice_get cs j ≡ Some d → c.statement ≡ d.statement → c.origins ≡ d.origins → i ≡ j
unfolding Apart Differs
one_place [] i j c d all at there number origins = absurd cc
one_place (x ∷ cs) zero zero c d all at there number origins = refl
one_place (x ∷ cs) zero (suc j) c d all at there number origins =
    let same : x ≡ c = same_Some x c at in
    absurd (AllByRecursion_at (Differs x.statement x.origins) cs j d all.0 there (sym number ∙ ap (λ (y : Case). y.statement) (sym same)) (sym origins ∙ ap (λ (y : Case). y.origins) (sym same)))
one_place (x ∷ cs) (suc i) zero c d all at there number origins =
    let same : x ≡ d = same_Some x d there in
    absurd (AllByRecursion_at (Differs x.statement x.origins) cs i c all.0 at (number ∙ ap (λ (y : Case). y.statement) (sym same)) (origins ∙ ap (λ (y : Case). y.origins) (sym same)))
one_place (x ∷ cs) (suc i) (suc j) c d all at there number origins = ap suc (one_place cs i j c d all.1 at there number origins)

-- ---- external cases name no prefix

Bare : Case → Type 0
Bare c = c.prefixes ≡ []

external_bare : (net : PlainNet) (policy : PlainPolicy) (k : ℕ) (ss : List PlainStatement) → AllByRecursion Bare (external_cases net policy k ss)
unfolding Bare
external_bare net policy k [] = tt
external_bare net policy k (s ∷ ss) = elim (cases_Bool (list_any (λ pattern. not (is_originated policy pattern)) s.patterns)) [
  | inl t ↦ rw t (refl, external_bare net policy (k + 1) ss)
  | inr t ↦ rw t (external_bare net policy (k + 1) ss)
]

outer_bare : (net : PlainNet) (policy : PlainPolicy) → AllByRecursion Bare (if length net.peers == 0 then [] else external_cases net policy 1 policy.statements)
outer_bare net policy = elim (cases_Bool (length net.peers == 0)) [
  | inl t ↦ rw t tt
  | inr t ↦ rw t (external_bare net policy 1 policy.statements)
]

nothing : (ps : List PlainPrefix) (p : PlainPrefix) → ps ≡ [] → IsIn ps p → ⊥
nothing [] p none (i, at) = cc
nothing (q ∷ ps) p none at = cc

-- ---- the case of a prefix

module _ (net : PlainNet) (policy : PlainPolicy) where
  inner : List Case
  inner = originated_cases policy policy.origins []

  -- a case that names a prefix is one of those of originated prefixes
  inside : (k : ℕ) (c : Case) (p : PlainPrefix) → slice_get (case_list net policy) k ≡ Some c → IsIn c.prefixes p → slice_get inner k ≡ Some c
  unfolding inner Bare
  inside k c p at names = elim (cases_lt k (length inner)) [
    | inl t ↦ from_front inner _ k c at t
    | inr t ↦
        let y = from_behind inner (if length net.peers == 0 then [] else external_cases net policy 1 policy.statements) k c at t in
        absurd (nothing c.prefixes p (AllByRecursion_at Bare _ y.0 c (outer_bare net policy) y.1) names)
  ]

  -- its statement governs the prefix, and an item originates the prefix at its origins
  pub named : (k : ℕ) (c : Case) (p : PlainPrefix) → slice_get (case_list net policy) k ≡ Some c → IsIn c.prefixes p
      → (o : Origin) × IsIn policy.origins o × (o.prefix ≡ p) × (governing policy p ≡ Some c.statement) × (o.at ≡ c.origins)
  unfolding inner
  named k c p at names = (AllByRecursion_at (IsOriginatedCase policy) inner k c (originated_are policy) (inside k c p at names)).each p names

  module _ (rules : IsPolicy policy) where
    -- two items for one prefix have the same origins
    pub one_item : (o x : Origin) → IsIn policy.origins o → IsIn policy.origins x → o.prefix ≡ x.prefix → o.at ≡ x.at
    one_item o x (i, at) (j, there) same =
        let place = place_by_key same_prefix (λ (y : Origin). y.prefix) policy.origins i j o x rules.once at there (alike o.prefix x.prefix same) (alike x.prefix o.prefix (sym same)) in
        let one : Some o ≡ Some x = sym at ∙ ap (slice_get policy.origins) place ∙ there in
        ap (λ (y : Origin). y.at) (same_Some o x one)
      where
        alike : (a b : PlainPrefix) → a ≡ b → same_prefix a b ≡ true
        alike a b h = and_from (a.bits == b.bits) (a.len == b.len) (eq-eqb _ _ (ap (λ (q : PlainPrefix). q.bits) h)) (eq-eqb _ _ (ap (λ (q : PlainPrefix). q.len) h))

    -- two cases that name one prefix are one
    pub one_case : (i j : ℕ) (c d : Case) (p : PlainPrefix) → slice_get (case_list net policy) i ≡ Some c → slice_get (case_list net policy) j ≡ Some d
        → IsIn c.prefixes p → IsIn d.prefixes p → i ≡ j
    unfolding inner Apart
    one_case i j c d p at there names also =
        let x = named i c p at names in
        let y = named j d p there also in
        let number : c.statement ≡ d.statement = same_Some c.statement d.statement (sym x.3 ∙ y.3) in
        let origins : c.origins ≡ d.origins = sym x.4 ∙ one_item x.0 y.0 x.1 y.1 (x.2 ∙ sym y.2) ∙ y.4 in
        one_place inner i j c d (originated_apart policy policy.origins [] tt) (inside i c p at names) (inside j d p there also) number origins
