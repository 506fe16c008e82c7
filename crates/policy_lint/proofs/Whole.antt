-- All findings together.
use Rattle.std.proofs.Common.{◌≡◌, ℕ, zero, suc, ◌+◌, ◌-◌, ◌<◌, ◌≤◌, Bool, true, false, List, [], ◌∷◌, ◌++◌, length, map, Some, Ok, refl, sym, ap, subst, ◌∙◌, inl, inr, arith}
use Rattle.std.specs.Prelude.{◌↔◌, IsTrue, filter, not, slice_get, if◌then◌else◌}
use Rattle.std.specs.List.{range_with_len}
use Rattle.std.proofs.lemmas.Bool.{cases_Bool, false_from_ne_true, not-true, not_from_false, true≢false}
use Rattle.std.proofs.lemmas.Option.{slice_get_within}
use Rattle.list_law.specs.Members.{IsIn}
use Rattle.list_law.proofs.Members.{IsIn-map_parts, IsIn-cons_cases, IsIn-nil}
use Rattle.policy_base.specs.declared.limits.TheConstants.{ALTERNATIVES}
use Rattle.net_base.specs.Network.{PlainNet}
use Rattle.policy_base.specs.Meaning.{alternative_count}
use Rattle.policy_base.specs.Policies.{PlainPolicy, PlainStatement}
use Rattle.policy_tokens.specs.declared.token.Token.{Token}
use Rattle.policy_tokens.specs.Tokens.{tokens_of}
use Rattle.bit_rows.specs.Tables.{PlainRows, has_at}
use Rattle.case_graphs.specs.Limits.{AreAllWithin}
use Rattle.lint_ranks.specs.Marks.{AreReached}
use Rattle.case_graphs.proofs.Within.{few_alternatives}
use Rattle.lint_cover.specs.Statements.{AreMarked}
use Rattle.policy_lint.specs.declared.finding.Finding.{Finding}
use Rattle.policy_lint.specs.declared.finding.Finding.TheVariants.{UnusedGroup, Covered, Idle, Unreached}
use Rattle.policy_lint.specs.Findings.{AreFindings, IsFinding, alternatives_from, all_parts, numbers}
use Rattle.policy_lint.specs.Groups.{group_names, is_unused}
use Rattle.policy_lint.specs.Selected.{AreThose}
use Rattle.policy_lint.specs.Told.{marked, told_covered, told_from, told_idle, told_unreached}
use Rattle.policy_lint.proofs.Covers.{covered_tells}
use Rattle.policy_lint.proofs.Idles.{case_of, has_case, idle_tells, idle_where_none, not_idle}
use Rattle.policy_lint.proofs.Selected.{one_those, those_append, those_none, those_passing}

-- a number of so many from one on
number_within : (a count n : ℕ) → IsIn (range_with_len a count) n → (a ≤ n) × (n < a + count)
number_within a zero n at = absurd (IsIn-nil n at)
number_within a (suc count) n at = elim (IsIn-cons_cases a (range_with_len (a + 1) count) n at) [
  | inl same ↦ (omega (arith, same), omega (arith, same))
  | inr later ↦ let is = number_within (a + 1) count n later in (omega (arith, is.0), omega (arith, is.1))
]

module _ (bytes : List ℕ) (tokens : List Token) (net : PlainNet) (policy : PlainPolicy) where
  abbrev Holds : Finding → Type 0
  Holds = IsFinding bytes tokens net policy

  abbrev count : ℕ
  count = length policy.statements

  unused_are : AreThose Holds (map UnusedGroup (group_names bytes tokens)) (map UnusedGroup (filter (is_unused bytes tokens) (group_names bytes tokens)))
  unused_are = those_passing Holds UnusedGroup (is_unused bytes tokens) (group_names bytes tokens) (λ name at. (λ h. h, λ h. h))

  covered_are : (covered : List Bool) → AreMarked policy.statements covered → AreThose Holds (map Covered (numbers count)) (told_covered covered count)
  covered_are covered are = those_passing Holds Covered (λ n. marked covered (n - 1)) (numbers count) tells
    where
      tells : (n : ℕ) → IsIn (numbers count) n → IsTrue (marked covered (n - 1)) ↔ Holds (Covered n)
      tells zero at = let within = number_within 1 count zero at in absurd (omega (arith, within.0))
      tells (suc k) at =
          let within = number_within 1 count (suc k) at in
          let before : suc k - 1 ≡ k = omega arith in
          let told = are.each k (omega (arith, within.1)) in
          let means = covered_tells policy k in
          (λ h. means.0 (told.0 (sym (ap (marked covered) before) ∙ h)), λ h. ap (marked covered) before ∙ told.1 (means.1 h))

  module _ (have : List Bool) (marks : (n : ℕ) → n ≤ count → marked have n ≡ has_case net policy n) where
    idle_are : AreThose Holds (map Idle (numbers count)) (told_idle have count)
    idle_are = those_passing Holds Idle (λ n. not (marked have n)) (numbers count) (λ n at.
        let within = number_within 1 count n at in
        idle_tells net policy n (marked have n) (marks n (omega (arith, within.1))))

    module _ (ranks : PlainRows) (reached : AreReached net policy ranks) where
      -- the alternatives of one statement
      one_are : (n : ℕ) (s : PlainStatement) → n ≤ count
          → AreThose Holds (map (Unreached n) (numbers (alternative_count s.ranked))) (if marked have n then told_unreached ranks n (alternative_count s.ranked) else [])
      one_are n s within = elim (cases_Bool (marked have n)) [
        | inl has ↦
            let not_ = not_idle net policy n (sym (marks n within) ∙ has) in
            let those = those_passing Holds (Unreached n) (λ k. not (has_at ranks n k)) (numbers (alternative_count s.ranked)) (λ k at. (
              λ h. (not_, λ walk. absurd (true≢false (sym ((reached n k within).1 walk) ∙ not-true (has_at ranks n k) h))),
              λ h. not_from_false (has_at ranks n k) (false_from_ne_true (has_at ranks n k) (λ set. h.1 ((reached n k within).0 set))),
            )) in
            subst (AreThose Holds (map (Unreached n) (numbers (alternative_count s.ranked)))) (sym (ap (λ b. if b then told_unreached ranks n (alternative_count s.ranked) else []) has)) those
        | inr none ↦
            let idle = idle_where_none net policy n (sym (marks n within) ∙ none) in
            let those = those_none Holds (map (Unreached n) (numbers (alternative_count s.ranked))) (λ f at h.
            let of = IsIn-map_parts (Unreached n) (numbers (alternative_count s.ranked)) f at in
            let found = subst Holds (sym of.2) h in
            absurd (found.0 idle)) in
            subst (AreThose Holds (map (Unreached n) (numbers (alternative_count s.ranked)))) (sym (ap (λ b. if b then told_unreached ranks n (alternative_count s.ranked) else []) none)) those
      ]

      from_are : (n : ℕ) (ss : List PlainStatement) → n + length ss ≤ count + 1 → AreThose Holds (alternatives_from n ss) (told_from ranks have n ss)
      from_are n [] within = refl
      from_are n (s ∷ ss) within =
          those_append Holds (map (Unreached n) (numbers (alternative_count s.ranked))) (alternatives_from (n + 1) ss) _ (told_from ranks have (n + 1) ss)
          (one_are n s (omega (arith, within))) (from_are (n + 1) ss (omega (arith, within)))

      pub all_are : (covered : List Bool) → AreMarked policy.statements covered → tokens_of bytes ≡ Ok tokens → (findings : List Finding)
          → findings ≡ map UnusedGroup (filter (is_unused bytes tokens) (group_names bytes tokens)) ++ told_covered covered count ++ told_idle have count ++ told_from ranks have 1 policy.statements
          → AreFindings bytes net policy findings
      all_are covered are cut findings is = record {
        tokens = tokens;
        cut = cut;
        are = subst (AreThose Holds (all_parts bytes tokens policy)) (sym is)
            (those_append Holds _ (alternatives_from 1 policy.statements) _ (told_from ranks have 1 policy.statements)
            (those_append Holds _ (map Idle (numbers count)) _ (told_idle have count)
            (those_append Holds (map UnusedGroup (group_names bytes tokens)) (map Covered (numbers count)) _ (told_covered covered count) unused_are (covered_are covered are))
            idle_are)
            (from_are 1 policy.statements (omega arith)));
      }

-- and there is one list of them
pub one_list : (bytes : List ℕ) (net : PlainNet) (policy : PlainPolicy) (one other : List Finding) → AreFindings bytes net policy one → AreFindings bytes net policy other → one ≡ other
one_list bytes net policy one other a b =
    let e = a.cut in
    let f = b.cut in
    let same : b.tokens ≡ a.tokens = cc in
    one_those (IsFinding bytes a.tokens net policy) (all_parts bytes a.tokens policy) one other a.are
    (subst (λ (ts : List Token). AreThose (IsFinding bytes ts net policy) (all_parts bytes ts policy) other) same b.are)

-- a statement that has a case has no more alternatives than there may be
pub few_where_marked : (net : PlainNet) (policy : PlainPolicy) (have : List Bool) → AreAllWithin net policy → ((n : ℕ) → n ≤ length policy.statements → marked have n ≡ has_case net policy n)
    → (k : ℕ) (s : PlainStatement) → slice_get policy.statements k ≡ Some s → marked have (k + 1) ≡ true → alternative_count s.ranked ≤ ALTERNATIVES
few_where_marked net policy have within marks k s at has =
    let inside = slice_get_within policy.statements k s at in
    let after : k + 1 ≡ suc k = omega arith in
    let case = case_of net policy (suc k) (subst (λ n. has_case net policy n ≡ true) after (sym (marks (k + 1) (omega (arith, inside))) ∙ has)) s at in
    few_alternatives net policy case.0 s case.1 within case.2
