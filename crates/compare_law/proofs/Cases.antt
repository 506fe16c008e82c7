-- What a policy says of a prefix depends on the statement that governs it and on its origins alone.
use Rattle.std.proofs.Common.{◌≡◌, ℕ, ◌+◌, ◌≤◌, List, [], ◌∷◌, Option, Some, None, refl, sym, ap, ap₂, ◌∙◌, arith, inl, inr}
use Rattle.std.specs.Prelude.{is_some, if◌then◌else◌}
use Rattle.std.proofs.lemmas.Bool.{cases_Bool}
use Rattle.net_base.specs.declared.loc.LocSet.{LocSet}
use Rattle.net_base.specs.Network.{PlainNet}
use Rattle.net_base.specs.Prefixes.{PlainPrefix}
use Rattle.policy_base.specs.Policies.{PlainPolicy, PlainStatement}
use Rattle.policy_base.specs.Meaning.{rank_of}
use Rattle.policy_base.specs.Governing.{governing_from, is_origin, is_origin_by, originated_at, some_contains, statement_from, statement_of}
use Rattle.evidence_law.specs.Faithful.{permits}
use Rattle.compare_base.specs.declared.cases.PrefixCase.{PrefixCase}
use Rattle.compare_base.specs.declared.cases.CasePair.{CasePair}
use Rattle.compare_base.specs.Cases.{case_for}
use Rattle.compare_base.specs.Ranks.{rank_by, rank_for}
use Rattle.compare_law.specs.Laws.{CasesDecide, PairsDecide}

same_number : (k j : ℕ) → Some k ≡ Some j → k ≡ j
same_number k j h = cc

-- no statement has a number below the first
not_before : (ss : List PlainStatement) (p : PlainPrefix) (k j : ℕ) → governing_from ss p k ≡ Some j → k ≤ j
not_before [] p k j h = absurd (cc)
not_before (s ∷ ss) p k j h = elim (cases_Bool (some_contains s.patterns p)) [
  | inl met ↦ (let here = same_number k j (sym (ap (λ b. if b then Some k else governing_from ss p (k + 1)) met) ∙ h) in omega (arith, here))
  | inr missed ↦ (let there = not_before ss p (k + 1) j (sym (ap (λ b. if b then Some k else governing_from ss p (k + 1)) missed) ∙ h) in omega (arith, there))
]

-- so where one prefix is governed by the first statement, and another one by the same, that is the first, too
both_first : (ss : List PlainStatement) (q : PlainPrefix) (k : ℕ) → Some k ≡ governing_from ss q (k + 1) → ⊥
both_first ss q k h = (let past = not_before ss q (k + 1) k (sym h) in omega (arith, past))

same_statement : (ss : List PlainStatement) (p q : PlainPrefix) (k : ℕ) → governing_from ss p k ≡ governing_from ss q k → statement_from ss p ≡ statement_from ss q
same_statement [] p q k h = refl
same_statement (s ∷ ss) p q k h = elim (cases_Bool (some_contains s.patterns p)) [
  | inl a ↦ elim (cases_Bool (some_contains s.patterns q)) [
    | inl b ↦ ap (λ t. if t then Some s else statement_from ss p) a ∙ sym (ap (λ t. if t then Some s else statement_from ss q) b)
    | inr b ↦ absurd (both_first ss q k
        (sym (ap (λ t. if t then Some k else governing_from ss p (k + 1)) a) ∙ h ∙ ap (λ t. if t then Some k else governing_from ss q (k + 1)) b))
  ]
  | inr a ↦ elim (cases_Bool (some_contains s.patterns q)) [
    | inl b ↦ absurd (both_first ss p k
        (sym (ap (λ t. if t then Some k else governing_from ss q (k + 1)) b) ∙ sym h ∙ ap (λ t. if t then Some k else governing_from ss p (k + 1)) a))
    | inr b ↦
        ap (λ t. if t then Some s else statement_from ss p) a
        ∙ same_statement ss p q (k + 1) (sym (ap (λ t. if t then Some k else governing_from ss p (k + 1)) a) ∙ h ∙ ap (λ t. if t then Some k else governing_from ss q (k + 1)) b)
        ∙ sym (ap (λ t. if t then Some s else statement_from ss q) b)
  ]
]

-- the rank by a statement and origins
rank_in_case : PlainNet → Option LocSet → Option PlainStatement → List ℕ → Option ℕ
rank_in_case net at None path = None
rank_in_case net at (Some s) path = if permits net (is_origin_by net at) s path then rank_of net s.ranked path else None

rank_by-case : (net : PlainNet) (policy : PlainPolicy) (p : PlainPrefix) (o : Option PlainStatement) (path : List ℕ) → rank_by net policy p o path ≡ rank_in_case net (originated_at policy.origins p) o path
unfolding rank_in_case
rank_by-case net policy p None path = refl
rank_by-case net policy p (Some s) path = refl

module _ (net : PlainNet) (policy : PlainPolicy) (p q : PlainPrefix) (same : case_for policy p ≡ case_for policy q) where
  same_origins : originated_at policy.origins p ≡ originated_at policy.origins q
  same_origins = ap (λ (c : PrefixCase). c.origins) same

  governed_alike : statement_of policy p ≡ statement_of policy q
  governed_alike = same_statement policy.statements p q 1 (ap (λ (c : PrefixCase). c.statement) same)

  origin_alike : (l : ℕ) → is_origin net policy p l ≡ is_origin net policy q l
  origin_alike l = ap (λ at. is_origin_by net at l) same_origins

  rank_alike : (path : List ℕ) → rank_for net policy p path ≡ rank_for net policy q path
  rank_alike path =
      rank_by-case net policy p (statement_of policy p) path ∙ ap₂ (λ at o. rank_in_case net at o path) same_origins governed_alike
      ∙ sym (rank_by-case net policy q (statement_of policy q) path)

pub cases_decide : CasesDecide
cases_decide net policy p q same = (origin_alike net policy p q same, rank_alike net policy p q same)

pub pairs_decide : PairsDecide
pairs_decide net old new p q same alike =
    let in_old : case_for old p ≡ case_for old q = ap (λ (c : CasePair). c.old) same in
    let in_new : case_for new p ≡ case_for new q = ap (λ (c : CasePair). c.new) same in
    record {
      origins = λ l. sym (origin_alike net old p q in_old l) ∙ alike.origins l ∙ origin_alike net new p q in_new l;
      permitted = λ path. ap is_some (sym (rank_alike net old p q in_old path)) ∙ alike.permitted path ∙ ap is_some (rank_alike net new p q in_new path);
      order = λ r peer u v a b c d router at_a at_b at_c at_d.
          alike.order r peer u v a b c d router (rank_alike net old p q in_old _ ∙ at_a) (rank_alike net old p q in_old _ ∙ at_b)
          (rank_alike net new p q in_new _ ∙ at_c) (rank_alike net new p q in_new _ ∙ at_d);
    }
