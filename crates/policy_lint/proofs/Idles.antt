-- Which statements have a case.
use Rattle.std.proofs.Common.{◌≡◌, ℕ, suc, Bool, true, false, Some, sym, ap, ◌∙◌, arith}
use Rattle.std.specs.Prelude.{◌↔◌, ◌==◌, IsTrue, not}
use Rattle.std.specs.List.{list_any}
use Rattle.std.proofs.lemmas.Bool.{eq-eqb, eqb-true, not-true, not_from_false, true≢false, false_from_ne_true}
use Rattle.list_law.proofs.Members.{list_any-from_IsIn, list_any_member}
use Rattle.net_base.specs.Network.{PlainNet}
use Rattle.policy_base.specs.declared.case.Case.{Case}
use Rattle.policy_base.specs.Cases.{case_list}
use Rattle.policy_base.specs.Policies.{PlainPolicy, PlainStatement, statement_at}
use Rattle.policy_base.specs.CaseNumbers.{IsCase}
use Rattle.policy_lint.specs.Findings.{IsIdle}

-- some case has the statement
abbrev pub has_case : PlainNet → PlainPolicy → ℕ → Bool
has_case net policy n = list_any (λ (c : Case). c.statement == n) (case_list net policy)

module _ (net : PlainNet) (policy : PlainPolicy) (n : ℕ) where
  pub idle_where_none : has_case net policy n ≡ false → IsIdle net policy n
  idle_where_none none c at same = true≢false (sym (list_any-from_IsIn (λ (d : Case). d.statement == n) (case_list net policy) c at (eq-eqb c.statement n same)) ∙ none)

  pub idle_has_none : IsIdle net policy n → has_case net policy n ≡ false
  idle_has_none idle = false_from_ne_true (has_case net policy n) (λ h.
      let found = list_any_member (λ (d : Case). d.statement == n) (case_list net policy) h in
      idle found.0 found.1 (eqb-true found.0.statement n found.2))

  pub not_idle : has_case net policy n ≡ true → ¬ IsIdle net policy n
  not_idle has idle = true≢false (sym has ∙ idle_has_none idle)

  -- a mark that tells whether there is one
  pub idle_tells : (mark : Bool) → mark ≡ has_case net policy n → IsTrue (not mark) ↔ IsIdle net policy n
  idle_tells mark is = (
    λ h. idle_where_none (sym is ∙ not-true mark h),
    λ idle. not_from_false mark (is ∙ idle_has_none idle),
  )

  -- and its number
  pub case_of : has_case net policy n ≡ true → (s : PlainStatement) → statement_at policy n ≡ Some s → (number : ℕ) × (c : Case) × IsCase net policy number s c
  case_of has s at =
      let found = list_any_member (λ (d : Case). d.statement == n) (case_list net policy) has in
      let same : found.0.statement ≡ n = eqb-true found.0.statement n found.2 in
      (suc found.1.0, found.0, record { case = found.1.1; statement = ap (statement_at policy) same ∙ at })
