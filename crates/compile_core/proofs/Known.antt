-- What is known of the evidence of each case.
use Rattle.std.proofs.Common.{◌≡◌, ℕ, zero, suc, ◌<◌, ◌≤◌, ◌^◌, List, [], length, Some, sym, ap, subst, ◌∙◌, arith}
use Rattle.std.specs.Prelude.{slice_get}
use Rattle.std.specs.Option.{option_map}
use Rattle.std.proofs.lemmas.List.{length-map}
use Rattle.std.proofs.lemmas.Option.{slice_get-map, slice_get_within, same_Some}
use Rattle.list_law.proofs.Items.{slice_get_inside}
use Rattle.net_base.specs.Network.{PlainNet, IsNet}
use Rattle.net_base.specs.Sets.{holds}
use Rattle.policy_base.specs.Cases.{case_list}
use Rattle.policy_base.specs.Policies.{IsPolicy, PlainPolicy, PlainStatement, statement_at}
use Rattle.graph_base.specs.declared.graph.Prefs.{Prefs}
use Rattle.graph_base.specs.Graphs.{PlainGraph}
use Rattle.graph_base.specs.Rules.{MeetsRules}
use Rattle.policy_base.specs.CaseOrigins.{AreOrigins}
use Rattle.evidence_base.specs.Evidence.{IsCaseEvidence}
use Rattle.evidence_base.specs.Made.{PlainCaseEvidence, AreTags, IsConfigOf, number_at}
use Rattle.config_base.specs.Configs.{PlainConfig}
use Rattle.config_maker.specs.Conditions.{IsSingle}
use Rattle.tag_assign.specs.Law.{AreAtLocations}
use Rattle.tag_assign.specs.Tagging.{tags_of, all_nodes}
use Rattle.tag_assign.proofs.Order.{tagging}
use Rattle.evidence_law.specs.Passes.{IsCaseGraph, IsClaimed, Passes, all_steps}
use Rattle.policy_base.specs.CaseNumbers.{OriginsAreRouters}
use Rattle.policy_base.proofs.KnownCases.{case_known, known_origins}
use Rattle.case_evidence.specs.declared.accepted.AcceptedCase.{AcceptedCase}
use Rattle.graph_base.specs.Preferences.{number_in}
use Rattle.case_evidence.specs.Accepted.{IsAccepted}
use Rattle.case_evidence.proofs.Joined.{given_fits}
use Rattle.compile_core.specs.Compiling.{evidence_of, AreAccepted, graphs_of, prefs_of}
use Rattle.compile_core.proofs.Limits.{few_nodes, made_within}
use Rattle.compile_core.proofs.Parts.{parts, all_parts, as_many_tags, tag_each, accepted_at}
use Rattle.compile_core.proofs.Places.{node_located, places, ranks}
use Rattle.graph_base.proofs.WellFormed.{heard_at_peers}

-- evidence of a case of the policy, which is accepted
pub record IsKnown (net : PlainNet) (policy : PlainPolicy) (e : PlainCaseEvidence) : Type 0 where
  pub statement : PlainStatement
  pub of : statement_at policy e.case.statement ≡ Some statement
  pub origins : AreOrigins net (holds e.case.origins) e.case.external
  pub given : AcceptedCase
  pub room : ℕ
  pub is : IsAccepted net room statement e.case given
  pub graph : given.graph ≡ e.graph
  pub numbers : given.prefs.of ≡ e.numbers
  pub tagged : length e.tags ≡ length e.graph.nodes

module _ (net : PlainNet) (policy : PlainPolicy) (e : PlainCaseEvidence) (known : IsKnown net policy e) where
  pub case_graph : (s : PlainStatement) → statement_at policy e.case.statement ≡ Some s → IsCaseGraph net s e
  case_graph s at =
      let same = same_Some known.statement s (sym known.of ∙ at) in
      subst (λ (t : PlainStatement). IsCaseGraph net t e) same
      (subst (λ (g : PlainGraph). IsCaseGraph net known.statement (record { case = e.case; graph = g; numbers = e.numbers; tags = e.tags }))
      known.graph (given_fits net known.room known.statement e.case known.given.graph known.given.used known.is.graph e.numbers e.tags))

  pub meets : (s : PlainStatement) → statement_at policy e.case.statement ≡ Some s → MeetsRules net (IsClaimed net s e.case) e.case.external e.graph (number_at e)
  meets s at =
      let same = same_Some known.statement s (sym known.of ∙ at) in
      subst (λ (t : PlainStatement). MeetsRules net (IsClaimed net t e.case) e.case.external e.graph (number_at e)) same
      (subst (λ (ns : List ℕ). MeetsRules net (IsClaimed net known.statement e.case) e.case.external e.graph (number_in ns)) known.numbers
      (subst (λ (g : PlainGraph). MeetsRules net (IsClaimed net known.statement e.case) e.case.external g (number_in known.given.prefs.of)) known.graph known.is.rules))

  pub single : IsSingle net e.graph
  single =
      let on = case_graph known.statement known.of in
      let formed = on.faithful.formed in
      record { one_start = formed.one_start; one_step = formed.one_step; from = formed.from; heard = heard_at_peers net (holds e.case.origins) e.case.external e.graph on.graph formed }

  stated : (number : ℕ) → statement_at policy number ≡ Some known.statement → 1 ≤ number
  stated zero at = absurd cc
  stated (suc k) at = omega arith

  pub case_evidence : IsNet net → IsCaseEvidence e
  case_evidence rules =
      let on = case_graph known.statement known.of in
      record {
        sized = ap length (sym known.numbers) ∙ known.is.numbers.size ∙ ap (λ (g : PlainGraph). length g.nodes) known.graph;
        tagged = known.tagged;
        stated = stated e.case.statement known.of;
        places = places net rules known.statement (holds e.case.origins) e.case.external known.origins e.graph on.graph on.faithful;
        ranks = ranks net rules known.statement (holds e.case.origins) e.case.external known.origins e.graph on.graph on.faithful;
      }

-- the evidence that is made of accepted cases
abbrev pub evidence_for : PlainNet → PlainPolicy → List AcceptedCase → List PlainCaseEvidence
evidence_for net policy accepted = evidence_of (case_list net policy) (graphs_of accepted) (prefs_of accepted) (tags_of net (graphs_of accepted))

module _ (net : PlainNet) (rules : IsNet net) (policy : PlainPolicy) (routers : OriginsAreRouters net policy.origins) (accepted : List AcceptedCase)
    (all : length accepted ≡ length (case_list net policy))
    (each : AreAccepted net policy accepted) where
  abbrev evidence : List PlainCaseEvidence
  evidence = evidence_for net policy accepted

  pub as_many_graphs : length (graphs_of accepted) ≡ length (case_list net policy)
  as_many_graphs = length-map accepted (λ (a : AcceptedCase). a.graph) ∙ all

  pub as_many_prefs : length (prefs_of accepted) ≡ length (case_list net policy)
  as_many_prefs = length-map accepted (λ (a : AcceptedCase). a.prefs) ∙ all

  pub known_at : (k : ℕ) (e : PlainCaseEvidence) → slice_get evidence k ≡ Some e → IsKnown net policy e
  known_at k e at =
      let has = parts (case_list net policy) (graphs_of accepted) (prefs_of accepted) (tags_of net (graphs_of accepted)) k e at in
      let case = case_known net policy k e.case has.case in
      let one = slice_get_inside accepted k (omega (arith, slice_get_within (graphs_of accepted) k e.graph has.graph, length-map accepted (λ (a : AcceptedCase). a.graph))) in
      let is = accepted_at net policy 1 all_steps accepted k (suc k) one.0 each one.1 (omega arith) in
      let graph : Some one.0.graph ≡ Some e.graph = sym (slice_get-map (λ (a : AcceptedCase). a.graph) accepted k ∙ ap (option_map (λ (a : AcceptedCase). a.graph)) one.1) ∙ has.graph in
      let prefs : Some one.0.prefs ≡ Some has.prefs = sym (slice_get-map (λ (a : AcceptedCase). a.prefs) accepted k ∙ ap (option_map (λ (a : AcceptedCase). a.prefs)) one.1) ∙ has.prefs_at in
      record {
        statement = case.statement.0;
        of = case.statement.1;
        origins = known_origins net policy e.case rules routers case;
        given = one.0;
        room = is.0;
        is = is.1 case.statement.0 e.case (record { case = has.case; statement = case.statement.1 });
        graph = same_Some one.0.graph e.graph graph;
        numbers = ap (λ (p : Prefs). p.of) (same_Some one.0.prefs has.prefs prefs) ∙ has.numbers;
        tagged = tag_each net [] (graphs_of accepted) k e.graph e.tags has.graph has.tags;
      }

  located : AreAtLocations net evidence
  located k n e at within =
      let known = known_at k e at in
      let on = case_graph net policy e known known.statement known.of in
      node_located net rules known.statement (holds e.case.origins) e.case.external known.origins e.graph on.graph on.faithful n within

  pub are_tags : IsPolicy policy → AreTags net evidence
  are_tags kept =
      let are = all_parts (case_list net policy) (graphs_of accepted) (prefs_of accepted) (tags_of net (graphs_of accepted)) as_many_graphs
      as_many_prefs (as_many_tags net (graphs_of accepted) ∙ as_many_graphs) in
      let few = subst (λ (gs : List PlainGraph). length (all_nodes gs) < 2 ^ 32) (sym are.graphs) (few_nodes net policy kept accepted all each) in
      tagging net evidence rules located few (are.tags ∙ ap (tags_of net) (sym are.graphs))

  pub passing : (config : PlainConfig) → IsPolicy policy → IsConfigOf net policy evidence config → Passes net policy config evidence
  passing config kept lines =
      let are = all_parts (case_list net policy) (graphs_of accepted) (prefs_of accepted) (tags_of net (graphs_of accepted)) as_many_graphs
      as_many_prefs (as_many_tags net (graphs_of accepted) ∙ as_many_graphs) in
      record {
        limits = made_within net policy accepted all each;
        made = record {
          cases = are.cases;
          graphs = λ k e s at of. case_graph net policy e (known_at k e at) s of;
          tags = are_tags kept;
          lines = lines;
        };
        rules = λ k e s at of. meets net policy e (known_at k e at) s of;
      }
