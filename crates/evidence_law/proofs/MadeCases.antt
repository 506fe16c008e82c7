-- The cases of evidence that is made for a policy, and which of them is that of a prefix.
use Rattle.std.proofs.Common.{◌≡◌, ℕ, suc, false, List, Option, Some, None, refl, sym, ap, ◌∙◌, inl, inr, subst}
use Rattle.std.specs.Prelude.{◌⊎◌, map, option_map, slice_get}
use Rattle.std.proofs.lemmas.Option.{slice_get-map}
use Rattle.list_law.proofs.Changed.{map-map}
use Rattle.list_law.proofs.Options.{option_map_parts}
use Rattle.net_base.specs.Network.{PlainNet, IsNet}
use Rattle.net_base.specs.Prefixes.{PlainPrefix, IsPrefix}
use Rattle.policy_base.specs.declared.case.Case.{Case}
use Rattle.policy_base.specs.Cases.{case_list}
use Rattle.policy_base.specs.Governing.{is_origin, statement_of}
use Rattle.policy_base.specs.Policies.{PlainPolicy, PlainStatement, IsPolicyOf}
use Rattle.config_base.specs.Configs.{PlainConfig}
use Rattle.config_base.specs.Lines.{class_from, class_of}
use Rattle.evidence_base.specs.Made.{PlainCaseEvidence, patterns_of}
use Rattle.evidence_law.specs.Passes.{IsMadeOf}
use Rattle.evidence_law.proofs.CaseOfClass.{IsCaseOf, governed_case, ungoverned_class}
use Rattle.evidence_law.proofs.ClassFound.{class_in}

module _ (net : PlainNet) (policy : PlainPolicy) (config : PlainConfig) (cs : List PlainCaseEvidence) (made : IsMadeOf net policy config cs) where
  same_case : (k : ℕ) → option_map (λ (d : PlainCaseEvidence). d.case) (slice_get cs k) ≡ slice_get (case_list net policy) k
  same_case k = sym (slice_get-map (λ (d : PlainCaseEvidence). d.case) cs k) ∙ ap (λ (xs : List Case). slice_get xs k) made.cases

  -- evidence is that of the policy's case with its number,
  pub case_listed : (k : ℕ) (d : PlainCaseEvidence) → slice_get cs k ≡ Some d → slice_get (case_list net policy) k ≡ Some d.case
  case_listed k d at = sym (same_case k) ∙ ap (option_map (λ (e : PlainCaseEvidence). e.case)) at

  -- and each case has evidence
  pub evidence_at : (k : ℕ) (c : Case) → slice_get (case_list net policy) k ≡ Some c → (d : PlainCaseEvidence) × (slice_get cs k ≡ Some d) × (d.case ≡ c)
  evidence_at k c at = option_map_parts (λ (d : PlainCaseEvidence). d.case) (slice_get cs k) c (same_case k ∙ at)

-- the case of a prefix that the statement governs, with its evidence
pub record HasCase (net : PlainNet) (policy : PlainPolicy) (config : PlainConfig) (cs : List PlainCaseEvidence) (p : PlainPrefix) (s : PlainStatement) : Type 0 where
  pub k : ℕ
  pub d : PlainCaseEvidence
  pub at : slice_get cs k ≡ Some d
  pub of_class : class_of config p ≡ Some (suc k)
  pub is : IsCaseOf net policy p s k d.case

module _ (net : PlainNet) (policy : PlainPolicy) (config : PlainConfig) (cs : List PlainCaseEvidence) (rules : IsNet net) (kept : IsPolicyOf net policy)
    (made : IsMadeOf net policy config cs) (p : PlainPrefix) (prefix : IsPrefix p) where
  -- the class of a prefix, by the cases of the policy
  class_is : class_of config p ≡ class_in policy p (case_list net policy) 1
  unfolding class_in
  class_is =
      ap (λ ps. class_from ps p 1) (made.lines.classes ∙ sym (map-map (patterns_of policy) (λ (c : PlainCaseEvidence). c.case) cs) ∙ ap (map (patterns_of policy)) made.cases)

  -- where no statement governs the prefix, it has no class
  pub has_no_class : statement_of policy p ≡ None → class_of config p ≡ None
  has_no_class none = class_is ∙ ungoverned_class net policy p rules kept prefix none

  -- where one does it has a case, or nobody is an origin and it has no class
  pub case_or_nobody : (s : PlainStatement) → statement_of policy p ≡ Some s
      → HasCase net policy config cs p s ⊎ (((l : ℕ) → is_origin net policy p l ≡ false) × (class_of config p ≡ None))
  case_or_nobody s governs = elim (governed_case net policy p rules kept prefix s governs) [
    | inr nobody ↦ inr (nobody.0, class_is ∙ nobody.1)
    | inl found ↦ (
        let d = evidence_at net policy config cs made found.0 found.1 found.3.at in
        inl (record {
          k = found.0;
          d = d.0;
          at = d.1;
          of_class = class_is ∙ found.2;
          is = subst (λ (c : Case). IsCaseOf net policy p s found.0 c) (sym d.2) found.3;
        }))
  ]

  -- so it has a case, or no class
  pub case_or_bare : ((s : PlainStatement) × (statement_of policy p ≡ Some s) × HasCase net policy config cs p s) ⊎ (class_of config p ≡ None)
  case_or_bare = go (statement_of policy p) refl
    where
      go : (o : Option PlainStatement) → statement_of policy p ≡ o
          → ((s : PlainStatement) × (statement_of policy p ≡ Some s) × HasCase net policy config cs p s) ⊎ (class_of config p ≡ None)
      go None is = inr (has_no_class is)
      go (Some s) is = elim (case_or_nobody s is) [
        | inl has ↦ inl (s, is, has)
        | inr nobody ↦ inr nobody.1
      ]
