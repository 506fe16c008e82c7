-- Reused evidence passes.
use Rattle.std.proofs.Common.{◌≡◌, ℕ, ◌≤◌, map, List, Some, sym, ap, ◌∙◌, subst, arith}
use Rattle.std.specs.Prelude.{slice_get}
use Rattle.net_base.specs.Network.{PlainNet}
use Rattle.policy_base.specs.declared.case.Case.{Case}
use Rattle.policy_base.specs.Policies.{PlainPolicy, PlainStatement, statement_at}
use Rattle.graph_base.specs.Graphs.{PlainGraph}
use Rattle.graph_base.specs.Rules.{MeetsRules}
use Rattle.config_base.specs.Configs.{PlainConfig}
use Rattle.evidence_base.specs.Made.{PlainCaseEvidence, AreTags, IsConfigOf, number_at}
use Rattle.evidence_law.specs.Passes.{IsCaseGraph, IsClaimed, Passes}
use Rattle.evidence_renewal.specs.Renewed.{raised}
use Rattle.evidence_renewal.proofs.Raising.{raised-down, raised-in, raised-up, rules-alike}
use Rattle.evidence_reuse.specs.Laws.{ReusedEvidencePasses}
use Rattle.evidence_reuse.proofs.Cases.{IsAlike, alike_at, same_list}
use Rattle.evidence_reuse.proofs.Tags.{are_tags}

module _ (net : PlainNet) (s : PlainStatement) (c d : PlainCaseEvidence) (is : IsAlike c d) where
  case_graph : IsCaseGraph net s c → IsCaseGraph net s d
  case_graph of =
      let rest : Case → PlainGraph → PlainCaseEvidence = λ x g. record { case = x; graph = g; numbers = d.numbers; tags = d.tags } in
      let begun : IsCaseGraph net s (rest c.case c.graph) = record { graph = of.graph; faithful = of.faithful; ranked = of.ranked } in
      subst (λ (g : PlainGraph). IsCaseGraph net s (rest d.case g)) (sym is.graph) (subst (λ (x : Case). IsCaseGraph net s (rest x c.graph)) (sym is.case) begun)

  rules : MeetsRules net (IsClaimed net s c.case) c.case.external c.graph (number_at c) → MeetsRules net (IsClaimed net s d.case) d.case.external d.graph (number_at d)
  rules meets =
      let number : (n : ℕ) → number_at d n ≡ raised is.by (number_at c n) = raised-in is.by c.numbers d.numbers is.numbers in
      let up : (a b : ℕ) → number_at c a ≤ number_at c b → number_at d a ≤ number_at d b = λ a b less.
      omega (arith, number a, number b, raised-up is.by (number_at c a) (number_at c b) less) in
      let down : (a b : ℕ) → number_at d a ≤ number_at d b → number_at c a ≤ number_at c b = λ a b less.
      raised-down is.by (number_at c a) (number_at c b) (omega (arith, number a, number b, less)) in
      let alike = rules-alike net (IsClaimed net s c.case) c.case.external c.graph (number_at c) (number_at d) up down meets in
      subst (λ (g : PlainGraph). MeetsRules net (IsClaimed net s d.case) d.case.external g (number_at d)) (sym is.graph)
      (subst (λ (x : Case). MeetsRules net (IsClaimed net s x) x.external c.graph (number_at d)) (sym is.case) alike)

-- what passes with one configuration passes with another one that is made of cases that are alike, of which the tags differ
alike_passes : (net : PlainNet) (policy : PlainPolicy) (first config : PlainConfig) (cs ds : List PlainCaseEvidence) → Passes net policy first cs
    → map (λ (d : PlainCaseEvidence). d.case) ds ≡ map (λ (c : PlainCaseEvidence). c.case) cs
    → ((k : ℕ) (d : PlainCaseEvidence) → slice_get ds k ≡ Some d → (c : PlainCaseEvidence) × (slice_get cs k ≡ Some c) × IsAlike c d)
    → AreTags net ds → IsConfigOf net policy ds config → Passes net policy config ds
alike_passes net policy first config cs ds passes same alike tags lines =
    let stated : (s : PlainStatement) (c d : PlainCaseEvidence) → IsAlike c d → statement_at policy d.case.statement ≡ Some s → statement_at policy c.case.statement ≡ Some s
    = λ s c d is of. ap (λ (x : Case). statement_at policy x.statement) (sym is.case) ∙ of in
    record {
      limits = passes.limits;
      made = record {
        cases = same ∙ passes.made.cases;
        graphs = λ k d s at of. let o = alike k d at in case_graph net s o.0 d o.2 (passes.made.graphs k o.0 s o.1 (stated s o.0 d o.2 of));
        tags = tags;
        lines = lines;
      };
      rules = λ k d s at of. let o = alike k d at in rules net s o.0 d o.2 (passes.rules k o.0 s o.1 (stated s o.0 d o.2 of));
    }

pub passing : ReusedEvidencePasses
passing net policy old config olds ds is =
    let e = is.evidence in
    alike_passes net policy e.made.0 config e.compiled ds e.made.2 (same_list _ _ e.compiled _ _ e.renewed ds e.are_renewed e.reused)
    (alike_at _ _ e.compiled _ _ e.renewed ds e.are_renewed e.reused) (are_tags net ds is.takes_over.tags) is.takes_over.lines
