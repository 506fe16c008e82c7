-- The class of a prefix is that of its case.
use Rattle.std.proofs.Common.{◌≡◌, ℕ, zero, suc, ◌+◌, Bool, true, false, List, [], ◌∷◌, ◌++◌, length, add-zero, Option, Some, None, refl, arith, sym, ap, ◌∙◌, inl, inr, subst, map}
use Rattle.std.specs.Prelude.{◌&&◌, ◌⊎◌, ◌==◌, option_map, slice_get, unwrap_or, if◌then◌else◌}
use Rattle.std.specs.List.{list_any}
use Rattle.std.proofs.lemmas.Bool.{and_parts, and_from, cases_Bool, eqb-true, eq-eqb, true≢false}
use Rattle.std.proofs.lemmas.Option.{slice_get-map}
use Rattle.std.proofs.lemmas.Map.Keys.{any_passes_from_place}
use Rattle.net_base.specs.declared.loc.LocSet.{LocSet}
use Rattle.net_base.specs.Sets.{same_set}
use Rattle.net_base.specs.Prefixes.{PlainPrefix, PlainPattern, IsPrefix, contains, only, same_prefix}
use Rattle.policy_base.specs.declared.policy.Origin.{Origin}
use Rattle.policy_base.specs.declared.case.Case.{Case}
use Rattle.policy_base.specs.Policies.{PlainPolicy, PlainStatement, statement_at}
use Rattle.policy_base.specs.Governing.{some_contains, governing, originated_at}
use Rattle.policy_base.specs.Cases.{with_prefix, with_governed, originated_cases}
use Rattle.config_base.specs.Lines.{class_from}
use Rattle.evidence_base.specs.Made.{patterns_of}
use Rattle.list_law.specs.Members.{IsIn}
use Rattle.list_law.proofs.Tests.{list_any_parts}
use Rattle.list_law.proofs.Options.{option_map_parts}
use Rattle.list_law.proofs.Members.{IsIn-push, IsIn-append_left}
use Rattle.evidence_law.proofs.CaseLists.{IsOriginatedCase, AreOriginated, only_itself, contains-itself, prefix_is}

-- ---- some case names the prefix

pub Names : List Case → PlainPrefix → Type 0
Names [] q = ⊥
Names (c ∷ cs) q = IsIn c.prefixes q ⊎ Names cs q

names_more : (k : ℕ) (o : Origin) (cs : List Case) (q : PlainPrefix) → Names cs q → Names (with_prefix k o cs) q
unfolding Names
names_more k o [] q h = absurd h
names_more k o (c ∷ cs) q (inl h) = elim (cases_Bool (c.statement == k && same_set c.origins o.at)) [
  | inl t ↦ rw t (inl (IsIn-append_left c.prefixes (o.prefix ∷ []) q h))
  | inr t ↦ rw t (inl h)
]
names_more k o (c ∷ cs) q (inr h) = elim (cases_Bool (c.statement == k && same_set c.origins o.at)) [
  | inl t ↦ rw t (inr h)
  | inr t ↦ rw t (inr (names_more k o cs q h))
]

names_new : (k : ℕ) (o : Origin) (cs : List Case) → Names (with_prefix k o cs) o.prefix
unfolding Names
names_new k o [] = inl (0, refl)
names_new k o (c ∷ cs) = elim (cases_Bool (c.statement == k && same_set c.origins o.at)) [
  | inl t ↦ rw t (inl (IsIn-push c.prefixes o.prefix))
  | inr t ↦ rw t (inr (names_new k o cs))
]

names_governed : (n : Option ℕ) (o : Origin) (cs : List Case) (q : PlainPrefix) → Names cs q → Names (with_governed n o cs) q
names_governed None o cs q h = h
names_governed (Some k) o cs q h = names_more k o cs q h

names_kept : (policy : PlainPolicy) (os : List Origin) (cs : List Case) (q : PlainPrefix) → Names cs q → Names (originated_cases policy os cs) q
names_kept policy [] cs q h = h
names_kept policy (o ∷ os) cs q h = names_kept policy os (with_governed (governing policy o.prefix) o cs) q (names_governed (governing policy o.prefix) o cs q h)

-- each originated prefix that is governed stands in a case
pub names_each : (policy : PlainPolicy) (os : List Origin) (cs : List Case) (i k : ℕ) (o : Origin) → slice_get os i ≡ Some o
    → governing policy o.prefix ≡ Some k → Names (originated_cases policy os cs) o.prefix
names_each policy [] cs i k o at governed = absurd cc
names_each policy (x ∷ os) cs zero k o at governed =
    let same : x ≡ o = cc in
    let number : governing policy x.prefix ≡ Some k = ap (λ (y : Origin). governing policy y.prefix) same ∙ governed in
    let new : Names (with_governed (governing policy x.prefix) x cs) x.prefix = subst (λ n. Names (with_governed n x cs) x.prefix) (sym number) (names_new k x cs) in
    subst (λ (y : Origin). Names (originated_cases policy (x ∷ os) cs) y.prefix) same (names_kept policy os (with_governed (governing policy x.prefix) x cs) x.prefix new)
names_each policy (x ∷ os) cs (suc i) k o at governed = names_each policy os (with_governed (governing policy x.prefix) x cs) i k o at governed

-- ---- the first case with a pattern that contains the prefix

unfoldable pub hits : PlainPolicy → PlainPrefix → Case → Bool
hits policy p c = some_contains (patterns_of policy c) p

unfoldable pub class_in : PlainPolicy → PlainPrefix → List Case → ℕ → Option ℕ
class_in policy p cs n = class_from (map (patterns_of policy) cs) p n

-- a prefix of a case hits it
own_hits : (policy : PlainPolicy) (p : PlainPrefix) (c : Case) → c.external ≡ false → IsIn c.prefixes p → hits policy p c ≡ true
unfolding hits
own_hits policy p c inner known =
    rw inner (any_passes_from_place (λ pattern. contains pattern p) (map only c.prefixes) known.0 (only p) (slice_get-map only c.prefixes known.0 ∙ ap (option_map only) known.1) (contains-itself p))

-- ---- items of `originate`

pub originated_some : (os : List Origin) (o : Origin) (p : PlainPrefix) → IsIn os o → o.prefix ≡ p → (at : LocSet) × (originated_at os p ≡ Some at)
originated_some [] o p (i, h) same = absurd cc
originated_some (x ∷ os) o p (zero, h) same =
    let one : x ≡ o = cc in
    let prefix : x.prefix ≡ p = ap (λ (y : Origin). y.prefix) one ∙ same in
    let here = and_from (x.prefix.bits == p.bits) (x.prefix.len == p.len) (eq-eqb _ _ (ap (λ (q : PlainPrefix). q.bits) prefix)) (eq-eqb _ _ (ap (λ (q : PlainPrefix). q.len) prefix)) in
    (x.at, rw here refl)
originated_some (x ∷ os) o p (suc i, h) same =
    let later = originated_some os o p (i, h) same in
    elim (cases_Bool (same_prefix x.prefix p)) [
      | inl t ↦ (x.at, rw t refl)
      | inr t ↦ (later.0, rw t later.1)
    ]

pub originated_by : (os : List Origin) (p : PlainPrefix) (at : LocSet) → originated_at os p ≡ Some at → (o : Origin) × IsIn os o × (o.prefix ≡ p) × (o.at ≡ at)
originated_by [] p at h = absurd cc
originated_by (x ∷ os) p at h = elim (cases_Bool (same_prefix x.prefix p)) [
  | inl t ↦
      let one : Some x.at ≡ Some at = sym (rw t refl) ∙ h in
      let parts = and_parts (x.prefix.bits == p.bits) (x.prefix.len == p.len) t in
      (x, (0, refl), prefix_is x.prefix p (eqb-true _ _ parts.0) (eqb-true _ _ parts.1), cc)
  | inr t ↦
      let rest : originated_at os p ≡ Some at = sym (rw t refl) ∙ h in
      let later = originated_by os p at rest in
      (later.0, (suc later.1.0, later.1.1), later.2, later.3)
]

module _ (policy : PlainPolicy) (p : PlainPrefix) (prefix : IsPrefix p) (known : (o : Origin) → IsIn policy.origins o → IsPrefix o.prefix) where
  -- a case that is hit names the prefix
  hit_names : (c : Case) → IsOriginatedCase policy c → hits policy p c ≡ true → IsIn c.prefixes p
  unfolding hits
  hit_names c kept h =
      let inner : list_any (λ pattern. contains pattern p) (map only c.prefixes) ≡ true =
      subst (λ (b : Bool). list_any (λ pattern. contains pattern p)
      (if b then unwrap_or (option_map (λ (s : PlainStatement). s.patterns) (statement_at policy c.statement)) [] else map only c.prefixes)
      ≡ true)
      kept.inner h in
      let found = list_any_parts (λ pattern. contains pattern p) (map only c.prefixes) inner in
      let q = option_map_parts only (slice_get c.prefixes found.0) found.1 (sym (slice_get-map only c.prefixes found.0) ∙ found.2) in
      let item = kept.each q.0 (found.0, q.1) in
      let rules : IsPrefix q.0 = subst IsPrefix item.2 (known item.0 item.1) in
      let same : p ≡ q.0 = only_itself q.0 p rules prefix (ap (λ (t : PlainPattern). contains t p) q.2 ∙ found.3) in
      (found.0, q.1 ∙ ap Some (sym same))

  -- the class of a prefix that stands in a case is that of the first case that names it
  pub class_named : (cs rest : List Case) (n : ℕ) → AreOriginated policy cs → Names cs p
      → (i : ℕ) × (c : Case) × (class_in policy p (cs ++ rest) n ≡ Some (n + i)) × (slice_get cs i ≡ Some c) × IsIn c.prefixes p
  unfolding Names hits class_in
  class_named [] rest n kept h = absurd h
  class_named (c ∷ cs) rest n kept h = elim (cases_Bool (hits policy p c)) [
    | inl t ↦ (0, c, rw t (ap Some (sym (add-zero n))), refl, hit_names c kept.0 t)
    | inr t ↦ elim h [
      | inl here ↦ absurd (true≢false (sym (own_hits policy p c kept.0.inner here) ∙ t))
      | inr more ↦
          let later = class_named cs rest (n + 1) kept.1 more in
          (suc later.0, later.1, rw t (later.2 ∙ ap Some (omega arith)), later.3, later.4)
    ]
  ]

  -- and that of one that no case names is none of theirs
  pub class_passed : (cs rest : List Case) (n : ℕ) → AreOriginated policy cs → ((c : Case) → IsOriginatedCase policy c → IsIn c.prefixes p → ⊥)
      → class_in policy p (cs ++ rest) n ≡ class_in policy p rest (n + length cs)
  unfolding hits class_in
  class_passed [] rest n kept absent = ap (class_in policy p rest) (sym (add-zero n))
  class_passed (c ∷ cs) rest n kept absent = elim (cases_Bool (hits policy p c)) [
    | inl t ↦ absurd (absent c kept.0 (hit_names c kept.0 t))
    | inr t ↦ rw t (class_passed cs rest (n + 1) kept.1 absent ∙ ap (class_in policy p rest) (omega arith))
  ]
