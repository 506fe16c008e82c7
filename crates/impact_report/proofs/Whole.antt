-- What is found by the graph of a prefix's case is the impact.
use Rattle.std.proofs.Common.{◌≡◌, ℕ, List, [], map, Option, Some, None, refl, sym, ap, ◌∙◌, subst, inl, inr}
use Rattle.std.specs.Prelude.{option_and_then}
use Rattle.list_law.proofs.Members.{IsIn-nil}
use Rattle.list_law.proofs.Options.{cases_Option}
use Rattle.net_base.specs.Network.{PlainNet, IsNet}
use Rattle.net_base.specs.Prefixes.{PlainPrefix, IsPrefix}
use Rattle.policy_base.specs.Governing.{statement_of}
use Rattle.policy_base.specs.Policies.{IsPolicyOf, PlainPolicy, PlainStatement}
use Rattle.graph_base.specs.Graphs.{PlainGraph}
use Rattle.config_base.specs.Configs.{PlainConfig}
use Rattle.config_base.specs.Lines.{class_of}
use Rattle.evidence_base.specs.Made.{PlainCaseEvidence, case_at}
use Rattle.outcome_base.specs.Outcomes.{Failures, no_failures}
use Rattle.evidence_law.specs.Passes.{IsCaseGraph, Passes}
use Rattle.outcome_claims.specs.Claims.{AreClaimed, Sources}
use Rattle.settled_law.proofs.SettledLaw.{case_or_bare}
use Rattle.scenarios.specs.Surviving.{AreSurvivors}
use Rattle.scenarios.specs.declared.survivors.Survivors.{Survivors}
use Rattle.settled_outcome.specs.Surviving.{left_by}
use Rattle.impact_law.specs.BestRanks.{AreToldByTops, AreTops, rank_by}
use Rattle.impact_law.specs.Cuts.{live_cuts, with_cut}
use Rattle.impact_law.specs.Impacts.{IsBareImpact, IsImpact, IsImpactBy, IsRanking, IsSource, changed, row_of}
use Rattle.impact_law.specs.declared.impact.Cut.{Cut}
use Rattle.impact_law.specs.declared.impact.Impact.{Impact}
use Rattle.impact_law.specs.declared.impact.SourceRank.{SourceRank}
use Rattle.impact_law.proofs.BestRanks.{nothing_is_claimed, tops_tell_best_ranks}
use Rattle.impact_law.proofs.Existing.{tops_exist as case_tops}
use Rattle.impact_report.specs.declared.sources.Source.{Source}
use Rattle.impact_report.specs.Found.{IsFound}
use Rattle.cut_ranks.specs.Left.{IsOpened}
use Rattle.cut_ranks.specs.Paths.{StepsDiffer, rank_under}
use Rattle.impact_report.specs.Rows.{IsBase}
use Rattle.impact_report.specs.Sources.{reranked, sources_in, with_rank}
use Rattle.cut_ranks.proofs.Besides.{none_besides}
use Rattle.impact_report.proofs.Claiming.{are_sources}
use Rattle.impact_report.proofs.Ranking.{ranking, reranking}
use Rattle.cut_ranks.proofs.Telling.{ranks_told}

-- an impact by a statement that governs
governed_impact : (net : PlainNet) (policy : PlainPolicy) (f : Failures) (p : PlainPrefix) (s : PlainStatement) (impact : Impact) → statement_of policy p ≡ Some s
    → IsImpactBy net policy f p s impact → IsImpact net policy f p impact
governed_impact net policy f p s impact governs is = rw governs is

bare_impact : (net : PlainNet) (policy : PlainPolicy) (f : Failures) (p : PlainPrefix) (impact : Impact) → statement_of policy p ≡ None → IsBareImpact net f impact → IsImpact net policy f p impact
bare_impact net policy f p impact free is = rw free is

module _ (net : PlainNet) (policy : PlainPolicy) (config : PlainConfig) (cs : List PlainCaseEvidence) (rules : IsNet net)
    (kept : IsPolicyOf net policy) (passes : Passes net policy config cs) (p : PlainPrefix) (prefix : IsPrefix p) where
  abbrev case_found : Option PlainCaseEvidence
  case_found = option_and_then (case_at cs) (class_of config p)

  -- ---- a prefix with a case

  record IsOf (d : PlainCaseEvidence) : Type 0 where
    s : PlainStatement
    governs : statement_of policy p ≡ Some s
    on : IsCaseGraph net s d
    told : (f : Failures) → AreToldByTops net policy f p s d
    top : Failures → ℕ → Option ℕ
    tops : (f : Failures) → AreTops net f d (top f)

  of_case : (d : PlainCaseEvidence) → case_found ≡ Some d → IsOf d
  of_case d found = elim (case_or_bare net policy config cs rules kept passes no_failures p prefix) [
    | inr free ↦ (let clash : None ≡ Some d = sym (ap (option_and_then (case_at cs)) free) ∙ found in absurd (cc))
    | inl c ↦ (
        let both : Some c.d ≡ Some d = sym c.at ∙ sym (ap (option_and_then (case_at cs)) c.of_class) ∙ found in
        let same : c.d ≡ d = cc in
        record {
          s = c.s;
          governs = c.governs;
          on = subst (IsCaseGraph net c.s) same c.on;
          told = λ f. tops_tell_best_ranks net policy config cs rules kept passes p f c.s c.k d prefix c.governs c.of_class (c.at ∙ ap Some same);
          top = λ f. (tops_for f).0;
          tops = λ f. (tops_for f).1;
        })
  ]
    where
      tops_for : (f : Failures) → (top : ℕ → Option ℕ) × AreTops net f d top
      tops_for f = elim (case_or_bare net policy config cs rules kept passes f p prefix) [
        | inr free ↦ (let clash : None ≡ Some d = sym (ap (option_and_then (case_at cs)) free) ∙ found in absurd (cc))
        | inl c ↦ (
            let both : Some c.d ≡ Some d = sym c.at ∙ sym (ap (option_and_then (case_at cs)) c.of_class) ∙ found in
            let same : c.d ≡ d = cc in
            let t = case_tops net policy config cs rules kept passes f p c in
            (t.0, subst (λ (e : PlainCaseEvidence). AreTops net f e t.0) same t.1))
      ]

  pub whole : (d : PlainCaseEvidence) (f : Failures) (t : Survivors) (claimed : Sources) (sources : List Source) (cuts : List Cut) (found : Impact) → case_found ≡ Some d → AreSurvivors net f t
      → AreClaimed net policy p claimed → sources ≡ sources_in net claimed → cuts ≡ live_cuts net f → IsFound net t d sources cuts found → IsImpact net policy f p found
  whole d f t claimed sources cuts found at lives are listed besides is = by (of_case d at)
    where
      left : PlainGraph
      left = left_by net t d.graph

      -- where no cut comes no session is dead by it
      same_rank : (r : ℕ) (peer : Option ℕ) → rank_under left no_failures is.top r peer ≡ rank_by left is.top r peer
      same_rank r None = refl
      same_rank r (Some peer) = refl

      same_ranks : map (with_rank (rank_under left no_failures is.top)) (sources_in net claimed) ≡ map (with_rank (rank_by left is.top)) (sources_in net claimed)
      same_ranks = λ i. map (with_rank (λ r peer. same_rank r peer i)) (sources_in net claimed)

      by : IsOf d → IsImpact net policy f p found
      by of =
          let opened : IsOpened net f d.graph left = record { survivors = t; are = lives; is = refl } in
          let ordered = are_sources net policy p of.s of.governs claimed are in
          let told = ranks_told net policy p of.s d f no_failures f (none_besides f) t lives (of.told f) is.top (is.tops of.s f of.on opened) in
          let first : IsRanking net policy f p of.s (map (with_rank (rank_under left no_failures is.top)) (sources_in net claimed)) =
          ranking net policy p of.s f (sources_in net claimed) (rank_under left no_failures is.top) ordered told in
          let same : map (with_rank (rank_under left no_failures is.top)) (sources_in net claimed) ≡ found.base =
          same_ranks ∙ sym (is.base ∙ ap (map (with_rank (rank_by left is.top))) listed) in
          let based : IsBase net policy f p of.s d left found.base = record { on = of.on; left = opened; told = of.told; ranking = subst (IsRanking net policy f p of.s) same first } in
          let after : Cut → List SourceRank = λ (cut : Cut). map (reranked (rank_under left (with_cut cut no_failures) (of.top (with_cut cut f)))) found.base in
          let ranked : (cut : Cut) → IsRanking net policy (with_cut cut f) p of.s (after cut) = λ cut. reranking net policy f p of.s d left found.base based
          cut (of.top (with_cut cut f)) (of.tops (with_cut cut f)) in
          let rows = is.rows policy f p of.s based after ranked ∙ ap (map (λ (cut : Cut). row_of cut (changed found.base (after cut)))) besides in
          governed_impact net policy f p of.s found of.governs (record { base = based.ranking; after = after; ranked = ranked; rows = rows })

  -- ---- a prefix without one

  free_class : case_found ≡ None → class_of config p ≡ None
  free_class none = elim (case_or_bare net policy config cs rules kept passes no_failures p prefix) [
    | inr free ↦ free
    | inl c ↦ (let clash : None ≡ Some c.d = sym none ∙ ap (option_and_then (case_at cs)) c.of_class ∙ c.at in absurd (cc))
  ]

  module _ (f : Failures) (cuts : List Cut) (none : case_found ≡ None) (besides : cuts ≡ live_cuts net f) where
    abbrev unchanged : Impact
    unchanged = record { base = []; rows = map (λ (cut : Cut). row_of cut []) cuts }

    module _ (s : PlainStatement) (governs : statement_of policy p ≡ Some s) where
      no_source : (r : ℕ) (peer : Option ℕ) → IsSource net policy p s r peer → ⊥
      no_source r None claimed = (nothing_is_claimed net policy config cs rules kept passes p s prefix governs (free_class none)).0 r claimed
      no_source r (Some peer) claimed = (nothing_is_claimed net policy config cs rules kept passes p s prefix governs (free_class none)).1 r peer claimed

      nobody : (h : Failures) → IsRanking net policy h p s []
      nobody h = record {
        each = λ x at. absurd (IsIn-nil x at);
        all = λ r peer claimed. absurd (no_source r peer claimed);
        order = λ i j x y low a b. absurd (IsIn-nil x (i, a));
      }

      empty : IsImpactBy net policy f p s unchanged
      empty = record { base = nobody f; after = λ cut. []; ranked = λ cut. nobody (with_cut cut f); rows = ap (map (λ (cut : Cut). row_of cut [])) besides }

    pub bare : IsImpact net policy f p unchanged
    bare = elim (cases_Option (statement_of policy p)) [
      | inl free ↦ bare_impact net policy f p unchanged free (record { base = refl; rows = ap (map (λ (cut : Cut). row_of cut [])) besides })
      | inr some ↦ governed_impact net policy f p some.0 unchanged some.1 (empty some.0 some.1)
    ]

  -- a node of the case steps to one node at a location
  pub steps_differ : (d : PlainCaseEvidence) → case_found ≡ Some d → StepsDiffer d.graph
  steps_differ d found = (of_case d found).on.faithful.formed.one_step
