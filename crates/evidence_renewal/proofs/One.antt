-- There is one renewed configuration.
use Rattle.std.proofs.Common.{◌≡◌, ℕ, List, [], ◌∷◌, refl, sym, ap, ◌∙◌, subst}
use Rattle.net_base.specs.declared.numbers.Tag.{Tag}
use Rattle.net_base.specs.Network.{PlainNet}
use Rattle.policy_base.specs.declared.case.Case.{Case}
use Rattle.policy_base.specs.Policies.{PlainPolicy}
use Rattle.graph_base.specs.Graphs.{PlainGraph}
use Rattle.config_base.specs.Configs.{PlainConfig}
use Rattle.config_maker.proofs.OneConfiguration.{one_configuration}
use Rattle.evidence_base.specs.Made.{PlainCaseEvidence, IsConfigOf}
use Rattle.compile_core.proofs.OneRefusal.{one_pair}
use Rattle.free_tags.proofs.Counting.{one_list}
use Rattle.evidence_renewal.specs.Laws.{RenewedConfigurationsAreOne}
use Rattle.evidence_renewal.specs.Renewed.{AreRenewed, AreRenewedCases, IsRenewedCase, IsRenewedEvidence}

module _ (taken : List Tag) (by : ℕ) where
  one_case : (c d e : PlainCaseEvidence) → IsRenewedCase taken by c d → IsRenewedCase taken by c e → d ≡ e
  one_case c d e a b =
      let case = a.case ∙ sym b.case in
      let graph = a.graph ∙ sym b.graph in
      let numbers = a.numbers ∙ sym b.numbers in
      let tags = one_list taken c.tags d.tags e.tags a.tags b.tags in
      let P : Case → PlainCaseEvidence = λ x. record { case = x; graph = d.graph; numbers = d.numbers; tags = d.tags } in
      let Q : PlainGraph → PlainCaseEvidence = λ x. record { case = e.case; graph = x; numbers = d.numbers; tags = d.tags } in
      let R : List ℕ → PlainCaseEvidence = λ x. record { case = e.case; graph = e.graph; numbers = x; tags = d.tags } in
      let S : List Tag → PlainCaseEvidence = λ x. record { case = e.case; graph = e.graph; numbers = e.numbers; tags = x } in
      ap P case ∙ ap Q graph ∙ ap R numbers ∙ ap S tags

  one_cases : (cs ds es : List PlainCaseEvidence) → AreRenewedCases taken by cs ds → AreRenewedCases taken by cs es → ds ≡ es
  one_cases [] [] [] a b = refl
  one_cases [] [] (e ∷ es) a b = absurd b
  one_cases [] (d ∷ ds) es a b = absurd a
  one_cases (c ∷ cs) [] es a b = absurd a
  one_cases (c ∷ cs) (d ∷ ds) [] a b = absurd b
  one_cases (c ∷ cs) (d ∷ ds) (e ∷ es) a b =
      ap (λ (x : PlainCaseEvidence). x ∷ ds) (one_case c d e a.0 b.0) ∙ ap (λ (xs : List PlainCaseEvidence). e ∷ xs) (one_cases cs ds es a.1 b.1)

pub one_evidence : (net : PlainNet) (policy : PlainPolicy) (old : PlainConfig) (ds es : List PlainCaseEvidence) → IsRenewedEvidence net policy old ds → IsRenewedEvidence net policy old es → ds ≡ es
one_evidence net policy old ds es a b =
    let compiled = (one_pair net policy a.made.0 b.made.0 a.compiled b.compiled a.made.1 b.made.1).0 in
    one_cases _ _ b.compiled ds es (subst (λ (cs : List PlainCaseEvidence). AreRenewed old cs ds) compiled a.renewed) b.renewed

pub one_renewal : RenewedConfigurationsAreOne
one_renewal net policy old config other ds es a b =
    let same = one_evidence net policy old ds es a.evidence b.evidence in
    (same, one_configuration net policy es config other (subst (λ (xs : List PlainCaseEvidence). IsConfigOf net policy xs config) same a.lines) b.lines)
