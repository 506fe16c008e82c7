-- What is made of the cases that are given.
use Rattle.std.proofs.Common.{◌≡◌, ℕ, ◌<◌, ◌^◌, List, length, Some, sym, ap, subst, ◌∙◌}
use Rattle.std.specs.Prelude.{slice_get}
use Rattle.net_base.specs.declared.numbers.Tag.{Tag}
use Rattle.net_base.specs.Network.{PlainNet, IsNet}
use Rattle.policy_base.specs.declared.case.Case.{Case}
use Rattle.policy_base.specs.Cases.{case_list}
use Rattle.policy_base.specs.Policies.{IsPolicy, PlainPolicy}
use Rattle.graph_base.specs.declared.graph.Prefs.{Prefs}
use Rattle.graph_base.specs.Graphs.{PlainGraph}
use Rattle.config_base.specs.Configs.{PlainConfig}
use Rattle.evidence_base.specs.Evidence.{IsCaseEvidence}
use Rattle.evidence_base.specs.Made.{PlainCaseEvidence, AreTags, IsConfigOf}
use Rattle.config_maker.specs.Conditions.{AreGraphs, AreSingle}
use Rattle.config_maker.proofs.CaseClasses.{case_lists}
use Rattle.config_maker.proofs.Possible.{configuration}
use Rattle.tag_assign.specs.Tagging.{tags_of, all_nodes}
use Rattle.evidence_law.specs.Passes.{Passes}
use Rattle.policy_base.specs.CaseNumbers.{OriginsAreRouters}
use Rattle.case_evidence.specs.declared.accepted.AcceptedCase.{AcceptedCase}
use Rattle.compile_core.specs.Accepting.{AreAllGiven}
use Rattle.compile_core.specs.Compiling.{evidence_of, IsEvidenceOfMade, IsMade, graphs_of}
use Rattle.compile_core.proofs.Known.{are_tags, as_many_graphs, case_evidence, case_graph, evidence_for, known_at, passing, single}
use Rattle.compile_core.proofs.Limits.{few_nodes}
use Rattle.compile_core.proofs.Parts.{as_many_tags}

-- there are few cases
pub few_cases : (net : PlainNet) (policy : PlainPolicy) (cs : List Case) → IsPolicy policy → cs ≡ case_list net policy → length cs < 2 ^ 32
few_cases net policy cs kept are = subst (λ (xs : List Case). length xs < 2 ^ 32) (sym are) (case_lists net policy kept).count

-- and few nodes
pub few_tags : (net : PlainNet) (policy : PlainPolicy) (gs graphs : List PlainGraph) (prefs : List Prefs) → IsPolicy policy → gs ≡ graphs
    → AreAllGiven net policy graphs prefs → length (all_nodes gs) < 2 ^ 32
few_tags net policy gs graphs prefs kept same given =
    subst (λ (xs : List PlainGraph). length (all_nodes xs) < 2 ^ 32) (sym (same ∙ given.1.graphs)) (few_nodes net policy kept given.1.accepted given.1.count given.1.each)

module _ (net : PlainNet) (rules : IsNet net) (policy : PlainPolicy) (kept : IsPolicy policy) (routers : OriginsAreRouters net policy.origins)
    (cs : List Case) (gs graphs : List PlainGraph) (ps prefs : List Prefs)
    (ts : List (List Tag)) (cases : cs ≡ case_list net policy) (same_g : gs ≡ graphs) (same_p : ps ≡ prefs) (tags : ts ≡ tags_of net graphs) (given : AreAllGiven net policy graphs prefs) where
  abbrev accepted : List AcceptedCase
  accepted = given.1.accepted

  graphs_are : gs ≡ graphs_of accepted
  graphs_are = same_g ∙ given.1.graphs

  same : evidence_of cs gs ps ts ≡ evidence_for net policy accepted
  same =
      ap (λ xs. evidence_of xs gs ps ts) cases
      ∙ ap (λ xs. evidence_of (case_list net policy) xs ps ts) graphs_are
      ∙ ap (λ xs. evidence_of (case_list net policy) (graphs_of accepted) xs ts) (same_p ∙ given.1.prefs)
      ∙ ap (evidence_of (case_list net policy) (graphs_of accepted) _) (tags ∙ ap (tags_of net) given.1.graphs)

  there : (k : ℕ) (e : PlainCaseEvidence) → slice_get (evidence_of cs gs ps ts) k ≡ Some e → slice_get (evidence_for net policy accepted) k ≡ Some e
  there k e at = ap (λ (es : List PlainCaseEvidence). slice_get es k) (sym same) ∙ at

  pub graph_each : length gs ≡ length cs
  graph_each = ap length graphs_are ∙ as_many_graphs net rules policy routers accepted given.1.count given.1.each ∙ ap length (sym cases)

  pub tags_each : length ts ≡ length cs
  tags_each = ap length tags ∙ as_many_tags net graphs ∙ ap length (sym same_g) ∙ graph_each

  singles : AreSingle net (evidence_of cs gs ps ts)
  singles k e at = single net policy e (known_at net rules policy routers accepted given.1.count given.1.each k e (there k e at))

  each_graph : AreGraphs (evidence_of cs gs ps ts)
  each_graph k e at =
      let known = known_at net rules policy routers accepted given.1.count given.1.each k e (there k e at) in
      (case_graph net policy e known known.statement known.of).graph

  pub each_kept : (k : ℕ) (e : PlainCaseEvidence) → slice_get (evidence_of cs gs ps ts) k ≡ Some e → IsCaseEvidence e
  each_kept k e at = case_evidence net policy e (known_at net rules policy routers accepted given.1.count given.1.each k e (there k e at)) rules

  differ : AreTags net (evidence_of cs gs ps ts)
  differ = subst (AreTags net) (sym same) (are_tags net rules policy routers accepted given.1.count given.1.each kept)

  made : (config : PlainConfig) → IsConfigOf net policy (evidence_of cs gs ps ts) config → IsMade net policy config (evidence_of cs gs ps ts)
  made config lines = record {
    accepted = accepted;
    all = given.1.count;
    each = given.1.each;
    evidence = same;
    lines = lines;
  }

  passes : (config : PlainConfig) → IsConfigOf net policy (evidence_of cs gs ps ts) config → Passes net policy config (evidence_of cs gs ps ts)
  passes config lines =
      subst (Passes net policy config) (sym same)
      (passing net rules policy routers accepted given.1.count given.1.each config kept (subst (λ es. IsConfigOf net policy es config) same lines))

  -- a configuration can be made of it, and so it is evidence
  pub is_evidence : IsEvidenceOfMade net policy (evidence_of cs gs ps ts)
  is_evidence =
      let config = configuration net policy (evidence_of cs gs ps ts) rules each_graph singles differ in
      (config.0, made config.0 config.1, passes config.0 config.1)
