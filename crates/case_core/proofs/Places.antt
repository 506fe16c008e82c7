-- The case and the statement that are read are where the lists have them.
use Rattle.std.proofs.Common.{◌≡◌, ℕ, zero, suc, ◌-◌, ◌≤◌, List, length, get_or, map, Some, arith, sym, ap, subst, ◌∙◌}
use Rattle.std.specs.Prelude.{slice_get}
use Rattle.std.proofs.lemmas.Option.{same_Some, slice_get-get_or, slice_get-map, slice_get_within}
use Rattle.std.proofs.lemmas.List.{length-map}
use Rattle.std.specs.Option.{option_map}
use Rattle.net_base.specs.Network.{PlainNet}
use Rattle.policy_base.specs.declared.case.Case.{Case}
use Rattle.policy_base.specs.declared.policy.Statement.{Statement}
use Rattle.policy_base.specs.Cases.{case_list}
use Rattle.policy_base.specs.Policies.{PlainPolicy, PlainStatement, PolicyLists, plain_statement, policy_of, statement_at}
use Rattle.policy_base.specs.CaseNumbers.{FitsOrigins, IsCase, OfCase, OriginsAreRouters, case_at}
use Rattle.policy_base.proofs.KnownCases.{IsKnown, case_known, known_origins}

case_at-read : (items all cs : List Case) (number : ℕ) (c : Case) → items ≡ all → all ≡ cs → 1 ≤ number → number ≤ length all → c ≡ get_or items (number - 1) c → case_at cs number ≡ Some c
case_at-read items all cs zero c same are from within read = absurd (omega (arith, from))
case_at-read items all cs (suc k) c same are from within read =
    let before : suc k - 1 ≡ k = omega arith in
    let there : slice_get items k ≡ Some c = slice_get-get_or items k c (omega (arith, within, ap length same)) ∙ ap Some (sym (read ∙ ap (λ n. get_or items n c) before)) in
    ap (λ (list : List Case). slice_get list k) (sym are ∙ sym same) ∙ there

-- a case is known by its place
case_at-place : (cs : List Case) (number : ℕ) (c : Case) → case_at cs number ≡ Some c → slice_get cs (number - 1) ≡ Some c
case_at-place cs zero c at = absurd cc
case_at-place cs (suc k) c at = let before : suc k - 1 ≡ k = omega arith in ap (slice_get cs) before ∙ at

-- the number of a statement is a place of the list, from 1
statement_place : (lists : PolicyLists) (number : ℕ) (s : PlainStatement) → statement_at (policy_of lists) number ≡ Some s → (1 ≤ number) × (number ≤ length lists.statements)
statement_place lists zero s at = absurd cc
statement_place lists (suc k) s at =
    let within = slice_get_within (map plain_statement lists.statements) k s at in
    (omega arith, omega (arith, within, length-map lists.statements plain_statement))

pub statement_at-read : (items : List Statement) (lists : PolicyLists) (number : ℕ) (statement : Statement) → items ≡ lists.statements → 1 ≤ number
    → number ≤ length lists.statements → statement ≡ get_or items (number - 1) statement
    → statement_at (policy_of lists) number ≡ Some (plain_statement statement)
statement_at-read items lists zero statement same from within read = absurd (omega (arith, from))
statement_at-read items lists (suc k) statement same from within read =
    let before : suc k - 1 ≡ k = omega arith in
    let there : slice_get items k ≡ Some statement = slice_get-get_or items k statement (omega (arith, within, ap length same)) ∙ ap Some (sym (read ∙ ap (λ n. get_or items n statement) before)) in
    slice_get-map plain_statement lists.statements k ∙ ap (option_map plain_statement) (ap (λ (list : List Statement). slice_get list k) (sym same) ∙ there)

-- what is known of a case that was read at a place of the case list
pub record IsReadAt (net : PlainNet) (lists : PolicyLists) (number : ℕ) (c : Case) : Type 0 where
  pub at : case_at (case_list net (policy_of lists)) number ≡ Some c
  pub known : IsKnown net (policy_of lists) c
  pub from_one : 1 ≤ c.statement
  pub within : c.statement ≤ length lists.statements

pub case_read : (net : PlainNet) (lists : PolicyLists) (items all : List Case) (number : ℕ) (c : Case) → items ≡ all
    → all ≡ case_list net (policy_of lists) → 1 ≤ number → number ≤ length all → c ≡ get_or items (number - 1) c → IsReadAt net lists number c
case_read net lists items all number c same are from within read =
    let at = case_at-read items all (case_list net (policy_of lists)) number c same are from within read in
    let known = case_known net (policy_of lists) (number - 1) c (case_at-place (case_list net (policy_of lists)) number c at) in
    let place = statement_place lists c.statement known.statement.0 known.statement.1 in
    record { at = at; known = known; from_one = place.0; within = place.1 }

module _ {net : PlainNet} {policy : PlainPolicy} {number : ℕ} {s : PlainStatement} {c : Case} (this : IsCase net policy number s c) where
  -- what holds of the one case with a number and of its statement is what holds of that case
  pub of_case : (Says : PlainStatement → Case → Type 0) → Says s c → OfCase net policy number Says
  of_case Says says other d is =
      let one : c ≡ d = same_Some c d (sym this.case ∙ is.case) in
      let statement : s ≡ other = same_Some s other (sym this.statement ∙ ap (λ (x : Case). statement_at policy x.statement) one ∙ is.statement) in
      subst (Says other) one (subst (λ x. Says x c) statement says)

  pub origins_fit : OriginsAreRouters net policy.origins → FitsOrigins net c
  origins_fit routers rules = known_origins net policy c rules routers (case_known net policy (number - 1) c (case_at-place (case_list net policy) number c this.case))
