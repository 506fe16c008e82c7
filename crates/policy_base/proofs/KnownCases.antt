-- The origins and the statements of the cases of a policy.
use Rattle.std.proofs.Common.{◌≡◌, ℕ, suc, ◌+◌, true, false, List, [], ◌∷◌, ◌++◌, length, Option, Some, None, refl, arith, sym, ap, subst, ◌∙◌, inl, inr, add-zero, Bool}
use Rattle.std.specs.Prelude.{◌⊎◌, ◌&&◌, ◌==◌, not, slice_get, if◌then◌else◌, nat_le}
use Rattle.std.specs.List.{AllByRecursion, list_any}
use Rattle.std.proofs.lemmas.Bool.{and_parts, cases_Bool, cases_lt, false_from_ne_true, ltb-true}
use Rattle.net_base.specs.Network.{PlainNet, IsNet, is_location, is_peer}
use Rattle.net_base.specs.Sets.{holds, same_set, set_of}
use Rattle.net_base.specs.Prefixes.{PlainPrefix}
use Rattle.net_base.proofs.SetOf.{holds-set_of, holds-set_of_past}
use Rattle.policy_base.specs.declared.case.Case.{Case}
use Rattle.policy_base.specs.declared.policy.Origin.{Origin}
use Rattle.policy_base.specs.Policies.{PlainPolicy, PlainStatement, statement_at}
use Rattle.policy_base.specs.Governing.{governing, governing_from, some_contains}
use Rattle.policy_base.specs.Cases.{case_list, external_cases, is_originated, originated_cases, with_governed, with_prefix}
use Rattle.list_law.specs.Members.{IsIn}
use Rattle.list_law.proofs.Each.{AllByRecursion_at}
use Rattle.policy_base.specs.CaseOrigins.{AreOrigins}
use Rattle.policy_base.specs.CaseNumbers.{OriginsAreRouters}
use Rattle.net_base.proofs.RoutersAndPeers.{router_known}

-- a case of a network and a policy: it has a statement, and its origins are those of an `originate` item, or all peers
pub record IsKnown (net : PlainNet) (policy : PlainPolicy) (c : Case) : Type 0 where
  pub statement : (s : PlainStatement) × (statement_at policy c.statement ≡ Some s)
  pub origins : ((c.external ≡ false) × ((o : Origin) × IsIn policy.origins o × (o.at ≡ c.origins))) ⊎ ((c.external ≡ true) × (c.origins ≡ set_of (is_peer net)))

abbrev AreKnown : PlainNet → PlainPolicy → List Case → Type 0
AreKnown net policy cs = AllByRecursion (IsKnown net policy) cs

-- the statement that governs is there
governing_there : (policy : PlainPolicy) (ss : List PlainStatement) (p : PlainPrefix) (k j : ℕ)
    → ((i : ℕ) (s : PlainStatement) → slice_get ss i ≡ Some s → statement_at policy (k + i) ≡ Some s) → governing_from ss p k ≡ Some j
    → (s : PlainStatement) × (statement_at policy j ≡ Some s)
governing_there policy [] p k j known h = absurd cc
governing_there policy (s ∷ ss) p k j known h = elim (cases_Bool (some_contains s.patterns p)) [
  | inl t ↦
      let number : Some k ≡ Some j = sym (rw t refl) ∙ h in
      let same : k + 0 ≡ j = add-zero k ∙ cc in
      (s, ap (statement_at policy) (sym same) ∙ known 0 s refl)
  | inr t ↦
      let rest : governing_from ss p (k + 1) ≡ Some j = sym (rw t refl) ∙ h in
      governing_there policy ss p (k + 1) j (λ i x at. let same : k + suc i ≡ k + 1 + i = omega arith in ap (statement_at policy) (sym same) ∙ known (suc i) x at) rest
]

all_statements : (policy : PlainPolicy) (i : ℕ) (s : PlainStatement) → slice_get policy.statements i ≡ Some s → statement_at policy (1 + i) ≡ Some s
all_statements policy i s at = let same : 1 + i ≡ suc i = omega arith in ap (statement_at policy) same ∙ at

-- ---- originated prefixes

with_prefix_known : (net : PlainNet) (policy : PlainPolicy) (k : ℕ) (o : Origin) (cs : List Case) → IsIn policy.origins o
    → ((s : PlainStatement) × (statement_at policy k ≡ Some s)) → AreKnown net policy cs → AreKnown net policy (with_prefix k o cs)
with_prefix_known net policy k o [] item statement known = (record { statement = statement; origins = inl (refl, (o, item, refl)) }, tt)
with_prefix_known net policy k o (c ∷ cs) item statement known = elim (cases_Bool (c.statement == k && same_set c.origins o.at)) [
  | inl t ↦ rw t (record { statement = known.0.statement; origins = known.0.origins }, known.1)
  | inr t ↦ rw t (known.0, with_prefix_known net policy k o cs item statement known.1)
]

originated_known : (net : PlainNet) (policy : PlainPolicy) (os : List Origin) (cs : List Case) → ((o : Origin) → IsIn os o → IsIn policy.origins o)
    → AreKnown net policy cs → AreKnown net policy (originated_cases policy os cs)
originated_known net policy [] cs items known = known
originated_known net policy (o ∷ os) cs items known =
    originated_known net policy os (with_governed (governing policy o.prefix) o cs) (λ x h. items x (suc h.0, h.1)) (go (governing policy o.prefix) refl)
  where
    go : (n : Option ℕ) → governing policy o.prefix ≡ n → AreKnown net policy (with_governed n o cs)
    go None e = known
    go (Some k) e = with_prefix_known net policy k o cs (items o (0, refl)) (governing_there policy policy.statements o.prefix 1 k (all_statements policy) e) known

-- ---- external cases

external_known : (net : PlainNet) (policy : PlainPolicy) (k : ℕ) (ss : List PlainStatement)
    → ((i : ℕ) (s : PlainStatement) → slice_get ss i ≡ Some s → statement_at policy (k + i) ≡ Some s)
    → AreKnown net policy (external_cases net policy k ss)
external_known net policy k [] known = tt
external_known net policy k (s ∷ ss) known =
    let later = external_known net policy (k + 1) ss (λ i x at. let same : k + suc i ≡ k + 1 + i = omega arith in ap (statement_at policy) (sym same) ∙ known (suc i) x at) in
    elim (cases_Bool (list_any (λ pattern. not (is_originated policy pattern)) s.patterns)) [
      | inl t ↦ rw t (record { statement = (s, ap (statement_at policy) (sym (add-zero k)) ∙ known 0 s refl); origins = inr (refl, refl) }, later)
      | inr t ↦ rw t later
    ]

both_known : (net : PlainNet) (policy : PlainPolicy) (cs ds : List Case) → AreKnown net policy cs → AreKnown net policy ds → AreKnown net policy (cs ++ ds)
both_known net policy [] ds a b = b
both_known net policy (c ∷ cs) ds a b = (a.0, both_known net policy cs ds a.1 b)

outer_known : (net : PlainNet) (policy : PlainPolicy) → AreKnown net policy (if length net.peers == 0 then [] else external_cases net policy 1 policy.statements)
outer_known net policy = elim (cases_Bool (length net.peers == 0)) [
  | inl t ↦ rw t tt
  | inr t ↦ rw t (external_known net policy 1 policy.statements (all_statements policy))
]

pub case_known : (net : PlainNet) (policy : PlainPolicy) (k : ℕ) (c : Case) → slice_get (case_list net policy) k ≡ Some c → IsKnown net policy c
case_known net policy k c at =
    AllByRecursion_at (IsKnown net policy) (case_list net policy) k c
    (both_known net policy (originated_cases policy policy.origins []) (if length net.peers == 0 then [] else external_cases net policy 1 policy.statements)
    (originated_known net policy policy.origins [] (λ o h. h) tt) (outer_known net policy)) at

-- ---- who the origins are

-- the set of the peers holds them
holds_peers : (net : PlainNet) → IsNet net → (l : ℕ) → holds (set_of (is_peer net)) l ≡ is_peer net l
holds_peers net rules l = elim (cases_lt l 768) [
  | inl in_reach ↦ holds-set_of (is_peer net) l in_reach
  | inr past ↦ holds-set_of_past (is_peer net) l past
      ∙ sym (false_from_ne_true (is_peer net l)
      (λ h. absurd (omega (arith, past, ltb-true l (length net.routers + length net.peers) (and_parts _ (is_location net l) h).1, rules.routers, rules.peers))))
]

pub known_origins : (net : PlainNet) (policy : PlainPolicy) (c : Case) → IsNet net → OriginsAreRouters net policy.origins → IsKnown net policy c → AreOrigins net (holds c.origins) c.external
known_origins net policy c rules routers known = elim known.origins [
  | inl t ↦ subst (AreOrigins net (holds c.origins)) (sym t.0) (λ l h. routers t.1.0 l t.1.1 (ap (λ set. holds set l) t.1.2 ∙ h))
  | inr t ↦ subst (AreOrigins net (holds c.origins)) (sym t.0) (λ l. ap (λ set. holds set l) t.1 ∙ holds_peers net rules l)
]

-- the origins are locations
pub origins_known : (net : PlainNet) (origin : ℕ → Bool) (external : Bool) → AreOrigins net origin external → (l : ℕ) → origin l ≡ true → is_location net l ≡ true
origins_known net origin true are l o = (and_parts (nat_le (length net.routers) l) (is_location net l) (sym (are l) ∙ o)).1
origins_known net origin false are l o = router_known net l (are l o)
