-- The class of a prefix that isn't originated is that of its statement's external case.
use Rattle.std.proofs.Common.{◌≡◌, ℕ, suc, ◌+◌, ◌≤◌, true, false, List, [], ◌∷◌, ◌++◌, add-zero, Some, None, refl, arith, sym, ap, ◌∙◌, inl, inr}
use Rattle.std.specs.Prelude.{◌⊎◌, ◌==◌, not, nat_le, slice_get, is_some}
use Rattle.std.specs.List.{list_any}
use Rattle.std.proofs.lemmas.Bool.{and_parts, cases_Bool, eqb-true, leb-true, true≢false, not_from_false, cond-false, cond-true}
use Rattle.std.proofs.lemmas.Map.Keys.{any_passes_from_place}
use Rattle.net_base.specs.Network.{PlainNet, is_peer}
use Rattle.net_base.specs.Sets.{set_of}
use Rattle.net_base.specs.Prefixes.{PlainPrefix, PlainPattern, IsPrefix, IsPattern, is_inside, contains}
use Rattle.policy_base.specs.declared.case.Case.{Case}
use Rattle.policy_base.specs.Policies.{PlainPolicy, PlainStatement, statement_at}
use Rattle.policy_base.specs.Governing.{some_contains, governing_from, statement_from, originated_at}
use Rattle.policy_base.specs.Cases.{is_originated, external_case, external_cases}
use Rattle.list_law.specs.Members.{IsIn}
use Rattle.list_law.proofs.Tests.{list_any_parts}
use Rattle.evidence_law.proofs.CaseLists.{inside_itself}
use Rattle.evidence_law.proofs.ClassFound.{hits, class_in}

-- the statement that governs, with its number
pub statement_number : (ss : List PlainStatement) (p : PlainPrefix) (k : ℕ) (s : PlainStatement) → statement_from ss p ≡ Some s
    → (i : ℕ) × (governing_from ss p k ≡ Some (k + i)) × (slice_get ss i ≡ Some s)
statement_number [] p k s h = absurd cc
statement_number (x ∷ ss) p k s h = elim (cases_Bool (some_contains x.patterns p)) [
  | inl t ↦ (
    0,
    cond-true (some_contains x.patterns p) (Some k) (governing_from ss p (k + 1)) t
        ∙ ap Some (sym (add-zero k)),
    sym (cond-true (some_contains x.patterns p) (Some x) (statement_from ss p) t) ∙ h,
  )
  | inr t ↦
      let rest : statement_from ss p ≡ Some s = sym (cond-false (some_contains x.patterns p) (Some x) (statement_from ss p) t) ∙ h in
      let later = statement_number ss p (k + 1) s rest in
      (suc later.0, cond-false (some_contains x.patterns p) (Some k) (governing_from ss p (k + 1)) t ∙ later.1 ∙ ap Some (omega arith), later.2)
]

pub ungoverned : (ss : List PlainStatement) (p : PlainPrefix) (k : ℕ) → statement_from ss p ≡ None → governing_from ss p k ≡ None
ungoverned [] p k h = refl
ungoverned (x ∷ ss) p k h = elim (cases_Bool (some_contains x.patterns p)) [
  | inl t ↦ let clash : Some x ≡ None = sym (rw t refl) ∙ h in absurd cc
  | inr t ↦ let rest : statement_from ss p ≡ None = sym (rw t refl) ∙ h in rw t (ungoverned ss p (k + 1) rest)
]

module _ (net : PlainNet) (policy : PlainPolicy) (p : PlainPrefix) where
  unfoldable pub Known : ℕ → List PlainStatement → Type 0
  Known k ss = (i : ℕ) (s : PlainStatement) → slice_get ss i ≡ Some s → (statement_at policy (k + i) ≡ Some s) × ((t : PlainPattern) → IsIn s.patterns t → IsPattern t)

  abbrev pub external_of : ℕ → Case
  external_of k = record { statement = k; origins = set_of (is_peer net); external = true; prefixes = [] }

  external_hits : (k : ℕ) (s : PlainStatement) → statement_at policy k ≡ Some s → hits policy p (external_of k) ≡ some_contains s.patterns p
  unfolding hits
  external_hits k s at = rw at refl

  -- a statement that doesn't has none that is hit
  passes_case : (k n : ℕ) (s : PlainStatement) (more : List Case) → statement_at policy k ≡ Some s → some_contains s.patterns p ≡ false
      → (class_in policy p (external_case net policy k s ++ more) n ≡ class_in policy p more n) × (external_case net policy k s ++ more ≡ more)
      ⊎ (class_in policy p (external_case net policy k s ++ more) n ≡ class_in policy p more (n + 1)) × (external_case net policy k s ++ more ≡ external_of k ∷ more)
  unfolding class_in hits
  passes_case k n s more at h = elim (cases_Bool (list_any (λ pattern. not (is_originated policy pattern)) s.patterns)) [
    | inl t ↦ inr (rw (t, at, h) refl, rw t refl)
    | inr t ↦ inl (rw t refl, rw t refl)
  ]

  later_known : (k : ℕ) (s : PlainStatement) (ss : List PlainStatement) → Known k (s ∷ ss) → Known (k + 1) ss
  unfolding Known
  later_known k s ss known i x at = let h = known (suc i) x at in let same : k + suc i ≡ k + 1 + i = omega arith in (ap (statement_at policy) (sym same) ∙ h.0, h.1)

  first_known : (k : ℕ) (s : PlainStatement) (ss : List PlainStatement) → Known k (s ∷ ss) → (statement_at policy k ≡ Some s) × ((t : PlainPattern) → IsIn s.patterns t → IsPattern t)
  unfolding Known
  first_known k s ss known = let h = known 0 s refl in (ap (statement_at policy) (sym (add-zero k)) ∙ h.0, h.1)

  pub class_none : (k n : ℕ) (ss : List PlainStatement) → Known k ss → governing_from ss p k ≡ None → class_in policy p (external_cases net policy k ss) n ≡ None
  unfolding class_in
  class_none k n [] known h = refl
  class_none k n (s ∷ ss) known h = elim (cases_Bool (some_contains s.patterns p)) [
    | inl t ↦ let clash : Some k ≡ None = sym (rw t refl) ∙ h in absurd cc
    | inr t ↦
        let rest : governing_from ss p (k + 1) ≡ None = sym (rw t refl) ∙ h in
        elim (passes_case k n s (external_cases net policy (k + 1) ss) (first_known k s ss known).0 t) [
          | inl e ↦ e.0 ∙ class_none (k + 1) n ss (later_known k s ss known) rest
          | inr e ↦ e.0 ∙ class_none (k + 1) (n + 1) ss (later_known k s ss known) rest
        ]
  ]

  module _ (prefix : IsPrefix p) (outside : originated_at policy.origins p ≡ None) where
    -- a pattern that contains the prefix isn't one single originated prefix
    not_single : (t : PlainPattern) → IsPattern t → contains t p ≡ true → is_originated policy t ≡ false
    not_single t rules h = elim (cases_Bool (is_originated policy t)) [
      | inl o ↦
          let parts = and_parts (is_inside t.base p) (nat_le p.len t.upto) h in
          let single = and_parts (t.upto == t.base.len) (is_some (originated_at policy.origins t.base)) o in
          let short : p.len ≤ t.base.len = omega (arith, leb-true _ _ parts.1, eqb-true _ _ single.0) in
          let same : p ≡ t.base = inside_itself t.base p rules.prefix prefix parts.0 short in
          let some : is_some (originated_at policy.origins p) ≡ true = ap (λ q. is_some (originated_at policy.origins q)) same ∙ single.1 in
          absurd (true≢false (sym some ∙ ap is_some outside))
      | inr o ↦ o
    ]

    -- a statement that contains the prefix has an external case
    has_case : (k : ℕ) (s : PlainStatement) → ((t : PlainPattern) → IsIn s.patterns t → IsPattern t) → some_contains s.patterns p ≡ true → external_case net policy k s ≡ external_of k ∷ []
    has_case k s rules h =
        let found = list_any_parts (λ pattern. contains pattern p) s.patterns h in
        let plain = not_single found.1 (rules found.1 (found.0, found.2)) found.3 in
        let there : list_any (λ pattern. not (is_originated policy pattern)) s.patterns ≡ true =
        any_passes_from_place (λ pattern. not (is_originated policy pattern)) s.patterns found.0 found.1 found.2 (not_from_false _ plain) in
        rw there refl

    abbrev pub Found : ℕ → ℕ → List PlainStatement → ℕ → Type 0
    Found k n ss j = (i : ℕ) × (class_in policy p (external_cases net policy k ss) n ≡ Some (n + i)) × (slice_get (external_cases net policy k ss) i ≡ Some (external_of j))

    pub class_external : (k n j : ℕ) (ss : List PlainStatement) → Known k ss → governing_from ss p k ≡ Some j → Found k n ss j
    unfolding class_in hits
    class_external k n j [] known h = absurd cc
    class_external k n j (s ∷ ss) known h = elim (cases_Bool (some_contains s.patterns p)) [
      | inl t ↦
          let first = first_known k s ss known in
          let number : Some k ≡ Some j = sym (rw t refl) ∙ h in
          let same : k ≡ j = cc in
          let case = has_case k s first.1 t in
          let hit = external_hits k s first.0 ∙ t in
          (0, rw (case, hit) (ap Some (sym (add-zero n))), rw case (ap (λ m. Some (external_of m)) same))
      | inr t ↦
          let rest : governing_from ss p (k + 1) ≡ Some j = sym (rw t refl) ∙ h in
          elim (passes_case k n s (external_cases net policy (k + 1) ss) (first_known k s ss known).0 t) [
            | inl e ↦
                let later = class_external (k + 1) n j ss (later_known k s ss known) rest in
                (later.0, e.0 ∙ later.1, ap (λ (cs : List Case). slice_get cs later.0) e.1 ∙ later.2)
            | inr e ↦
                let later = class_external (k + 1) (n + 1) j ss (later_known k s ss known) rest in
                let place : n + 1 + later.0 ≡ n + suc later.0 = omega arith in
                (suc later.0, e.0 ∙ later.1 ∙ ap Some place, ap (λ (cs : List Case). slice_get cs (suc later.0)) e.1 ∙ later.2)
          ]
    ]
