-- A configuration can be made of renewed evidence.
use Rattle.std.proofs.Common.{List, map, sym, ◌∙◌, subst}
use Rattle.policy_base.specs.CaseNumbers.{OriginsAreRouters}
use Rattle.policy_base.specs.Policies.{IsPolicy, PlainPolicy}
use Rattle.net_base.specs.Network.{IsNet, PlainNet}
use Rattle.graph_base.specs.Graphs.{IsGraph}
use Rattle.config_base.specs.Configs.{PlainConfig}
use Rattle.config_maker.specs.Conditions.{AreClasses, AreGraphs, AreSingle, IsSingle}
use Rattle.config_maker.proofs.CaseClasses.{case_lists}
use Rattle.config_maker.proofs.Possible.{configuration}
use Rattle.evidence_base.specs.Made.{PlainCaseEvidence, AreTags, IsConfigOf}
use Rattle.compile_core.proofs.Configured as compiled
use Rattle.compile_core.proofs.Known.{case_graph}
use Rattle.evidence_renewal.specs.Renewed.{IsRenewedEvidence}
use Rattle.evidence_renewal.proofs.Above.{known_place}
use Rattle.evidence_renewal.proofs.Cases.{renewed_at, same_cases}
use Rattle.evidence_renewal.proofs.Passing.{are_tags}

module _ (net : PlainNet) (policy : PlainPolicy) (old : PlainConfig) (ds : List PlainCaseEvidence) (is : IsRenewedEvidence net policy old ds) where
  pub classes : IsPolicy policy → AreClasses policy (map (λ (e : PlainCaseEvidence). e.case) ds)
  classes kept = subst (AreClasses policy) (sym (same_cases _ _ is.compiled ds is.renewed ∙ is.made.2.made.cases)) (case_lists net policy kept)

  pub singles : IsNet net → OriginsAreRouters net policy.origins → AreSingle net ds
  singles rules routers k d at =
      let o = renewed_at _ _ is.compiled ds is.renewed k d at in
      subst (IsSingle net) (sym o.2.graph) (compiled.singles net policy is.compiled is.made rules routers k o.0 o.1)

  pub differ : AreTags net ds
  differ = are_tags _ _ net is.compiled ds is.renewed is.made.2.made.tags

  -- and there is one, whether it is made or not
  pub possible : IsNet net → OriginsAreRouters net policy.origins → (config : PlainConfig) × IsConfigOf net policy ds config
  possible rules routers =
      let graphs : AreGraphs ds = λ k d at.
      let o = renewed_at _ _ is.compiled ds is.renewed k d at in
      let known = known_place net policy is.compiled is.made rules routers k o.0 o.1 in
      subst IsGraph (sym o.2.graph) (case_graph net policy o.0 known known.statement known.of).graph in
      configuration net policy ds rules graphs (singles rules routers) differ
