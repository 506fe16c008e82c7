-- What is made of evidence that keeps all rules.
use Rattle.std.proofs.Common.{◌≡◌, ℕ, suc, List, map, Some, option_map, sym, ap, ◌∙◌, subst, arith}
use Rattle.std.specs.Prelude.{slice_get}
use Rattle.std.proofs.lemmas.Option.{slice_get-map}
use Rattle.net_base.specs.Network.{PlainNet}
use Rattle.net_base.specs.Sets.{holds}
use Rattle.policy_base.specs.Cases.{case_list}
use Rattle.policy_base.specs.Policies.{IsPolicy, PlainPolicy}
use Rattle.policy_base.specs.declared.case.Case.{Case}
use Rattle.graph_base.proofs.WellFormed.{heard_at_peers}
use Rattle.evidence_base.specs.Made.{AreTags, PlainCaseEvidence}
use Rattle.config_maker.specs.Conditions.{AreClasses, IsSingle}
use Rattle.config_maker.proofs.CaseClasses.{case_lists}
use Rattle.policy_base.proofs.KnownCases.{case_known}
use Rattle.evidence_verdicts.specs.declared.rule.CheckRule.{CheckRule}
use Rattle.evidence_verdicts.specs.declared.rule.CheckRule.TheVariants.{Cases, Walks, Ranks, Mixed, PrefRank, PrefStep, PrefLoop, PrefListener, Tags, ConfigDiffers}
use Rattle.evidence_verdicts.specs.Rules.{Keeps}
use Rattle.evidence_verdicts.specs.Verdicts.{KeepsBefore}
use Rattle.evidence_verdicts.proofs.TenRules.{all_cases, tags}

module _ (net : PlainNet) (policy : PlainPolicy) (cs : List PlainCaseEvidence) (before : KeepsBefore ConfigDiffers net policy cs) where
  pub all_rules : (r : CheckRule) → Keeps r net policy cs
  all_rules Cases = before Cases (omega arith)
  all_rules Walks = before Walks (omega arith)
  all_rules Ranks = before Ranks (omega arith)
  all_rules Mixed = before Mixed (omega arith)
  all_rules PrefRank = before PrefRank (omega arith)
  all_rules PrefStep = before PrefStep (omega arith)
  all_rules PrefLoop = before PrefLoop (omega arith)
  all_rules PrefListener = before PrefListener (omega arith)
  all_rules Tags = before Tags (omega arith)
  all_rules ConfigDiffers = λ k m n. tt

  pub are_classes : IsPolicy policy → AreClasses policy (map (λ (c : PlainCaseEvidence). c.case) cs)
  are_classes rules = subst (AreClasses policy) (sym (all_cases net policy cs all_rules)) (case_lists net policy rules)

  pub are_tags : AreTags net cs
  are_tags = tags net policy cs all_rules

  pub are_single : (k : ℕ) (c : PlainCaseEvidence) → slice_get cs k ≡ Some c → IsSingle net c.graph
  are_single k c at =
      let listed : slice_get (case_list net policy) k ≡ Some c.case = ap (λ (list : List Case). slice_get list k)
      (sym (all_cases net policy cs all_rules)) ∙ slice_get-map (λ (d : PlainCaseEvidence). d.case) cs k
      ∙ ap (option_map (λ (d : PlainCaseEvidence). d.case)) at in
      let known = case_known net policy k c.case listed in
      let walks = before Walks (omega arith) (suc k) 0 0 c known.statement.0 at known.statement.1 in
      let formed = walks.1.formed in
      record { one_start = formed.one_start; one_step = formed.one_step; from = formed.from; heard = heard_at_peers net (holds c.case.origins) c.case.external c.graph walks.0 formed }
