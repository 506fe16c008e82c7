-- Each case of a case list has a pattern.
use Rattle.std.proofs.Common.{◌≡◌, ◌≢◌, ℕ, suc, ◌+◌, ◌≤◌, Bool, true, false, List, [], ◌∷◌, ◌++◌, length, map, Option, Some, None, refl, sym, ap, ◌∙◌, subst, arith, inl, inr, length-append}
use Rattle.std.specs.Prelude.{◌&&◌, ◌==◌, not, slice_get, option_map, unwrap_or, if◌then◌else◌}
use Rattle.std.specs.List.{AllByRecursion, list_any}
use Rattle.std.proofs.lemmas.Bool.{cases_Bool, false≢true}
use Rattle.list_law.proofs.Each.{AllByRecursion-append, AllByRecursion-weaker}
use Rattle.net_base.specs.Network.{PlainNet}
use Rattle.net_base.specs.Sets.{same_set}
use Rattle.net_base.specs.Prefixes.{PlainPattern, PlainPrefix, only}
use Rattle.policy_base.specs.declared.case.Case.{Case}
use Rattle.policy_base.specs.declared.policy.Origin.{Origin}
use Rattle.policy_base.specs.Policies.{PlainPolicy, PlainStatement, statement_at}
use Rattle.policy_base.specs.Governing.{governing}
use Rattle.policy_base.specs.Cases.{with_prefix, with_governed, originated_cases, is_originated, external_case, external_cases, case_list}
use Rattle.evidence_base.specs.Made.{patterns_of}
use Rattle.config_maker.specs.Law.{CaseListsAreClasses}

-- ---- cases of originated prefixes

-- the case names prefixes
abbrev HasPrefix : Case → Type 0
HasPrefix c = (c.external ≡ false) × (c.prefixes ≢ [])

grown : (ps : List PlainPrefix) (p : PlainPrefix) → ps ++ p ∷ [] ≢ []
grown [] p h = cc
grown (q ∷ ps) p h = cc

prefix_kept : (k : ℕ) (o : Origin) (cs : List Case) → AllByRecursion HasPrefix cs → AllByRecursion HasPrefix (with_prefix k o cs)
prefix_kept k o [] all = ((refl, λ h. cc), tt)
prefix_kept k o (c ∷ cs) all = elim (cases_Bool (c.statement == k && same_set c.origins o.at)) [
  | inl t ↦ rw t ((all.0.0, grown c.prefixes o.prefix), all.1)
  | inr t ↦ rw t (all.0, prefix_kept k o cs all.1)
]

governed_kept : (g : Option ℕ) (o : Origin) (cs : List Case) → AllByRecursion HasPrefix cs → AllByRecursion HasPrefix (with_governed g o cs)
governed_kept None o cs all = all
governed_kept (Some k) o cs all = prefix_kept k o cs all

originated_kept : (policy : PlainPolicy) (os : List Origin) (cs : List Case) → AllByRecursion HasPrefix cs → AllByRecursion HasPrefix (originated_cases policy os cs)
originated_kept policy [] cs all = all
originated_kept policy (o ∷ os) cs all = originated_kept policy os (with_governed (governing policy o.prefix) o cs) (governed_kept (governing policy o.prefix) o cs all)

prefix_count : (k : ℕ) (o : Origin) (cs : List Case) → length (with_prefix k o cs) ≤ length cs + 1
prefix_count k o [] = omega arith
prefix_count k o (c ∷ cs) = elim (cases_Bool (c.statement == k && same_set c.origins o.at)) [
  | inl t ↦ rw t (omega arith)
  | inr t ↦ rw t (omega (arith, prefix_count k o cs))
]

governed_count : (g : Option ℕ) (o : Origin) (cs : List Case) → length (with_governed g o cs) ≤ length cs + 1
governed_count None o cs = omega arith
governed_count (Some k) o cs = prefix_count k o cs

originated_count : (policy : PlainPolicy) (os : List Origin) (cs : List Case) → length (originated_cases policy os cs) ≤ length cs + length os
originated_count policy [] cs = omega arith
originated_count policy (o ∷ os) cs =
    omega (arith, originated_count policy os (with_governed (governing policy o.prefix) o cs), governed_count (governing policy o.prefix) o cs)

-- ---- external cases

-- a case whose statement has a pattern
abbrev HasStatement : PlainPolicy → Case → Type 0
HasStatement policy c = (c.external ≡ true) × ((s : PlainStatement) × (statement_at policy c.statement ≡ Some s) × (s.patterns ≢ []))

some_pattern : (p : PlainPattern → Bool) (ps : List PlainPattern) → list_any p ps ≡ true → ps ≢ []
some_pattern p [] h e = false≢true h
some_pattern p (q ∷ ps) h e = cc

external_kept : (net : PlainNet) (policy : PlainPolicy) (k : ℕ) (s : PlainStatement) → statement_at policy k ≡ Some s → AllByRecursion (HasStatement policy) (external_case net policy k s)
external_kept net policy k s at = elim (cases_Bool (list_any (λ pattern. not (is_originated policy pattern)) s.patterns)) [
  | inl t ↦ rw t ((refl, (s, at, some_pattern (λ pattern. not (is_originated policy pattern)) s.patterns t)), tt)
  | inr t ↦ rw t tt
]

externals_kept : (net : PlainNet) (policy : PlainPolicy) (i : ℕ) (ss : List PlainStatement) → ((j : ℕ) (s : PlainStatement) → slice_get ss j ≡ Some s → slice_get policy.statements (i + j) ≡ Some s)
    → AllByRecursion (HasStatement policy) (external_cases net policy (suc i) ss)
externals_kept net policy i [] at = tt
externals_kept net policy i (s ∷ ss) at =
    let same : i + 0 ≡ i = omega arith in
    let next : suc i + 1 ≡ suc (i + 1) = omega arith in
    let here : statement_at policy (suc i) ≡ Some s = ap (slice_get policy.statements) (sym same) ∙ at 0 s refl in
    let later = externals_kept net policy (i + 1) ss (λ j t there. let e : i + 1 + j ≡ i + suc j = omega arith in ap (slice_get policy.statements) e ∙ at (suc j) t there) in
    AllByRecursion-append (HasStatement policy) (external_case net policy (suc i) s) (external_cases net policy (suc i + 1) ss) (external_kept net policy (suc i) s here)
    (subst (λ k. AllByRecursion (HasStatement policy) (external_cases net policy k ss)) (sym next) later)

external_count : (net : PlainNet) (policy : PlainPolicy) (k : ℕ) (s : PlainStatement) → length (external_case net policy k s) ≤ 1
external_count net policy k s = elim (cases_Bool (list_any (λ pattern. not (is_originated policy pattern)) s.patterns)) [
  | inl t ↦ rw t (omega arith)
  | inr t ↦ rw t (omega arith)
]

externals_count : (net : PlainNet) (policy : PlainPolicy) (k : ℕ) (ss : List PlainStatement) → length (external_cases net policy k ss) ≤ length ss
externals_count net policy k [] = omega arith
externals_count net policy k (s ∷ ss) =
    omega (arith, length-append (external_case net policy k s) (external_cases net policy (k + 1) ss), external_count net policy k s, externals_count net policy (k + 1) ss)

-- ---- both

mapped : (ps : List PlainPrefix) → ps ≢ [] → map only ps ≢ []
mapped [] some e = some refl
mapped (p ∷ ps) some e = cc

of_prefixes : (policy : PlainPolicy) (c : Case) → HasPrefix c → patterns_of policy c ≢ []
of_prefixes policy c has = subst (λ (ps : List PlainPattern). ps ≢ []) (sym is) (mapped c.prefixes has.1)
  where
    is : patterns_of policy c ≡ map only c.prefixes
    is = rw has.0 refl

of_statement : (policy : PlainPolicy) (c : Case) → HasStatement policy c → patterns_of policy c ≢ []
of_statement policy c has = subst (λ (ps : List PlainPattern). ps ≢ []) (sym is) has.1.2
  where
    is : patterns_of policy c ≡ has.1.0.patterns
    is = rw has.0 (ap (λ (o : Option PlainStatement). unwrap_or (option_map (λ (s : PlainStatement). s.patterns) o) []) has.1.1)

-- the external cases are there where the network has a peer
abbrev outer : PlainNet → PlainPolicy → Bool → List Case
outer net policy none = if none then [] else external_cases net policy 1 policy.statements

outer_kept : (net : PlainNet) (policy : PlainPolicy) (none : Bool) → AllByRecursion (HasStatement policy) (outer net policy none)
outer_kept net policy true = tt
outer_kept net policy false = externals_kept net policy 0 policy.statements (λ j s at. let e : 0 + j ≡ j = omega arith in ap (slice_get policy.statements) e ∙ at)

outer_count : (net : PlainNet) (policy : PlainPolicy) (none : Bool) → length (outer net policy none) ≤ length policy.statements
outer_count net policy true = omega arith
outer_count net policy false = externals_count net policy 1 policy.statements

-- there is at most a case for each prefix that is originated and one for each statement
pub case_count : (net : PlainNet) (policy : PlainPolicy) → length (case_list net policy) ≤ length policy.origins + length policy.statements
case_count net policy =
    let inner = originated_cases policy policy.origins [] in
    let external = outer net policy (length net.peers == 0) in
    omega (arith, length-append inner external, originated_count policy policy.origins [], outer_count net policy (length net.peers == 0))

pub case_lists : CaseListsAreClasses
case_lists net policy rules =
    let inner = originated_cases policy policy.origins [] in
    let external = outer net policy (length net.peers == 0) in
    record {
      count = omega (arith, case_count net policy, rules.statements, rules.prefixes);
      patterns = AllByRecursion-append (λ (c : Case). patterns_of policy c ≢ []) inner external
          (AllByRecursion-weaker HasPrefix (λ (c : Case). patterns_of policy c ≢ []) inner (of_prefixes policy) (originated_kept policy policy.origins [] tt))
          (AllByRecursion-weaker (HasStatement policy) (λ (c : Case). patterns_of policy c ≢ []) external (of_statement policy) (outer_kept net policy (length net.peers == 0)));
    }
