-- The cases of a policy: those of originated prefixes, and external ones.
use Rattle.std.proofs.Common.{◌≡◌, ℕ, zero, suc, ◌-◌, ◌/◌, ◌%◌, ◌^◌, ◌≤◌, true, false, List, [], ◌∷◌, ◌++◌, Option, Some, None, refl, arith, sym, ap, ◌∙◌, inl, inr, subst}
use Rattle.std.specs.Prelude.{◌&&◌, ◌==◌, nat_le}
use Rattle.std.specs.List.{AllByRecursion}
use Rattle.std.proofs.lemmas.Bool.{and_parts, and_from, cases_Bool, eqb-true, eq-eqb, leb-true, le-leb}
use Rattle.std.proofs.lemmas.Slice.Eq.{bytes_eq-Decides}
use Rattle.net_base.specs.declared.loc.LocSet.{LocSet}
use Rattle.net_base.specs.Sets.{same_set}
use Rattle.net_base.specs.Prefixes.{PlainPrefix, IsPrefix, is_inside, contains, only}
use Rattle.policy_base.specs.declared.policy.Origin.{Origin}
use Rattle.policy_base.specs.declared.case.Case.{Case}
use Rattle.policy_base.specs.Policies.{PlainPolicy}
use Rattle.policy_base.specs.Governing.{governing}
use Rattle.policy_base.specs.Cases.{with_prefix, with_governed, originated_cases}
use Rattle.list_law.specs.Members.{IsIn}
use Rattle.list_law.proofs.Numbers.{same_multiple}
use Rattle.list_law.proofs.Members.{IsIn-push_cases}

-- ---- one prefix

pub prefix_is : (p q : PlainPrefix) → p.bits ≡ q.bits → p.len ≡ q.len → p ≡ q
prefix_is p q bits len = λ i. record { bits = bits i; len = len i }

-- what is inside a prefix, and no longer, is that prefix
pub inside_itself : (q p : PlainPrefix) → IsPrefix q → IsPrefix p → is_inside q p ≡ true → p.len ≤ q.len → p ≡ q
inside_itself q p rules other inside most =
    let parts = and_parts (nat_le q.len p.len) (p.bits / 2 ^ (32 - q.len) == q.bits / 2 ^ (32 - q.len)) inside in
    let least : q.len ≤ p.len = leb-true _ _ parts.0 in
    let len : p.len ≡ q.len = omega (arith, least, most) in
    let clean : p.bits % 2 ^ (32 - q.len) ≡ 0 = subst (λ (n : ℕ). p.bits % 2 ^ (32 - n) ≡ 0) len other.clean in
    prefix_is p q (same_multiple p.bits q.bits (2 ^ (32 - q.len)) clean rules.clean (eqb-true _ _ parts.1)) len

pub only_itself : (q p : PlainPrefix) → IsPrefix q → IsPrefix p → contains (only q) p ≡ true → p ≡ q
only_itself q p rules other h =
    let parts = and_parts (is_inside q p) (nat_le p.len q.len) h in
    inside_itself q p rules other parts.0 (leb-true _ _ parts.1)

pub contains-itself : (q : PlainPrefix) → contains (only q) q ≡ true
contains-itself q = and_from _ _ (and_from _ _ (le-leb q.len q.len (omega arith)) (eq-eqb _ _ refl)) (le-leb q.len q.len (omega arith))

pub set_is : (s t : LocSet) → same_set s t ≡ true → s ≡ t
set_is s t h = let e = (bytes_eq-Decides s.words t.words).0 h in λ i. record { words = e i }

-- ---- the cases of originated prefixes

-- what each of them keeps: its prefixes are originated at its origins and governed by its statement
pub record IsOriginatedCase (policy : PlainPolicy) (c : Case) : Type 0 where
  pub inner : c.external ≡ false
  pub each : (q : PlainPrefix) → IsIn c.prefixes q → (o : Origin) × IsIn policy.origins o × (o.prefix ≡ q) × (governing policy q ≡ Some c.statement) × (o.at ≡ c.origins)

abbrev pub AreOriginated : PlainPolicy → List Case → Type 0
AreOriginated policy cs = AllByRecursion (IsOriginatedCase policy) cs

new_case : (policy : PlainPolicy) (k : ℕ) (o : Origin) → IsIn policy.origins o → governing policy o.prefix ≡ Some k
    → IsOriginatedCase policy (record { statement = k; origins = o.at; external = false; prefixes = o.prefix ∷ [] })
new_case policy k o known governed = record {
  inner = refl;
  each = λ q h. only_one q h;
}
  where
    only_one : (q : PlainPrefix) → IsIn (o.prefix ∷ []) q → (o' : Origin) × IsIn policy.origins o' × (o'.prefix ≡ q) × (governing policy q ≡ Some k) × (o'.at ≡ o.at)
    only_one q (zero, h) = let same : o.prefix ≡ q = cc in (o, known, same, ap (governing policy) (sym same) ∙ governed, refl)
    only_one q (suc i, h) = absurd cc

joined_case : (policy : PlainPolicy) (k : ℕ) (o : Origin) (c : Case) → IsOriginatedCase policy c → IsIn policy.origins o → governing policy o.prefix ≡ Some k → c.statement ≡ k → c.origins ≡ o.at
    → IsOriginatedCase policy (record c { prefixes = c.prefixes ++ o.prefix ∷ [] })
joined_case policy k o c kept known governed number origins = record {
  inner = kept.inner;
  each = λ q h. elim (IsIn-push_cases c.prefixes o.prefix q h) [
    | inl t ↦ kept.each q t
    | inr t ↦ (o, known, t, ap (governing policy) (sym t) ∙ governed ∙ ap Some (sym number), sym origins)
  ];
}

with_prefix_kept : (policy : PlainPolicy) (k : ℕ) (o : Origin) (cs : List Case) → IsIn policy.origins o → governing policy o.prefix ≡ Some k
    → AreOriginated policy cs → AreOriginated policy (with_prefix k o cs)
with_prefix_kept policy k o [] known governed kept = (new_case policy k o known governed, tt)
with_prefix_kept policy k o (c ∷ cs) known governed kept = elim (cases_Bool (c.statement == k && same_set c.origins o.at)) [
  | inl t ↦
      let parts = and_parts (c.statement == k) (same_set c.origins o.at) t in
      rw t (joined_case policy k o c kept.0 known governed (eqb-true _ _ parts.0) (set_is _ _ parts.1), kept.1)
  | inr t ↦ rw t (kept.0, with_prefix_kept policy k o cs known governed kept.1)
]

originated_kept : (policy : PlainPolicy) (os : List Origin) (cs : List Case) → ((o : Origin) → IsIn os o → IsIn policy.origins o)
    → AreOriginated policy cs → AreOriginated policy (originated_cases policy os cs)
originated_kept policy [] cs known kept = kept
originated_kept policy (o ∷ os) cs known kept =
    originated_kept policy os (with_governed (governing policy o.prefix) o cs) (λ x h. known x (suc h.0, h.1)) (go (governing policy o.prefix) refl)
  where
    go : (n : Option ℕ) → governing policy o.prefix ≡ n → AreOriginated policy (with_governed n o cs)
    go None e = kept
    go (Some k) e = with_prefix_kept policy k o cs (known o (0, refl)) e kept

pub originated_are : (policy : PlainPolicy) → AreOriginated policy (originated_cases policy policy.origins [])
originated_are policy = originated_kept policy policy.origins [] (λ o h. h) tt
