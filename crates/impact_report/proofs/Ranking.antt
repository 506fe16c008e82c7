-- Rankings of sources.
use Rattle.std.proofs.Common.{◌≡◌, ℕ, List, map, Option, refl, sym, ap, ◌∙◌, subst}
use Rattle.std.specs.Prelude.{slice_get}
use Rattle.list_law.proofs.Changed.{map-map}
use Rattle.std.proofs.lemmas.Option.{slice_get-map}
use Rattle.list_law.specs.Members.{IsIn}
use Rattle.list_law.proofs.Members.{IsIn-map, IsIn-map_parts}
use Rattle.list_law.proofs.Options.{option_map_parts}
use Rattle.net_base.specs.Network.{PlainNet}
use Rattle.net_base.specs.Prefixes.{PlainPrefix}
use Rattle.policy_base.specs.Policies.{PlainPolicy, PlainStatement}
use Rattle.graph_base.specs.Graphs.{PlainGraph}
use Rattle.evidence_base.specs.Made.{PlainCaseEvidence}
use Rattle.outcome_base.specs.Outcomes.{Failures, no_failures}
use Rattle.evidence_law.specs.Passes.{IsCaseGraph}
use Rattle.settled_outcome.specs.Surviving.{left_by}
use Rattle.impact_law.specs.BestRanks.{AreTops, IsBestRank}
use Rattle.impact_law.specs.Cuts.{with_cut}
use Rattle.impact_law.specs.Impacts.{IsRanking, IsSource, Precedes, begin_at, changed}
use Rattle.impact_law.specs.declared.impact.Cut.{Cut}
use Rattle.impact_law.specs.declared.impact.SourceRank.{SourceRank}
use Rattle.impact_law.proofs.OneImpact.{rankings_are_one}
use Rattle.impact_report.specs.declared.sources.Source.{Source}
use Rattle.cut_ranks.specs.Paths.{rank_under}
use Rattle.cut_ranks.specs.Left.{IsOpened}
use Rattle.impact_report.specs.Rows.{IsBase, IsChange}
use Rattle.impact_report.specs.Sources.{AreSources, reranked, with_rank}
use Rattle.cut_ranks.proofs.Besides.{cut_besides}
use Rattle.cut_ranks.proofs.Telling.{ranks_told}

abbrev pub source_in : SourceRank → Source
source_in x = record { router = x.router; peer = x.peer }

module _ (net : PlainNet) (policy : PlainPolicy) (p : PlainPrefix) (s : PlainStatement) (f : Failures) where
  -- sources with their best ranks
  pub ranking : (xs : List Source) (rank : ℕ → Option ℕ → Option ℕ) → AreSources net policy p s xs
      → ((r : ℕ) (peer : Option ℕ) → IsSource net policy p s r peer → IsBestRank net policy f p s (begin_at r peer) (rank r peer))
      → IsRanking net policy f p s (map (with_rank rank) xs)
  ranking xs rank are best = record {
    each = λ x at.
        let y = IsIn-map_parts (with_rank rank) xs x at in
        let claimed = are.each y.0 y.1 in
        subst (λ (z : SourceRank). IsSource net policy p s z.router z.peer × IsBestRank net policy f p s (begin_at z.router z.peer) z.rank) y.2 (claimed, best y.0.router y.0.peer claimed);
    all = λ r peer claimed.
        let x : Source = record { router = r; peer = peer } in
        (with_rank rank x, IsIn-map (with_rank rank) xs x (are.all r peer claimed), refl, refl);
    order = λ i j x y low h k.
        let a = option_map_parts (with_rank rank) (slice_get xs i) x (sym (slice_get-map (with_rank rank) xs i) ∙ h) in
        let b = option_map_parts (with_rank rank) (slice_get xs j) y (sym (slice_get-map (with_rank rank) xs j) ∙ k) in
        subst (λ (z : SourceRank). Precedes z.router z.peer y.router y.peer) a.2 (subst (λ (z : SourceRank). Precedes a.0.router a.0.peer z.router z.peer) b.2 (are.order i j a.0 b.0 low a.1 b.1));
  }

  -- the sources of a ranking
  pub ranked_sources : (base : List SourceRank) → IsRanking net policy f p s base → AreSources net policy p s (map source_in base)
  ranked_sources base is = record {
    each = λ x at.
        let y = IsIn-map_parts source_in base x at in
        subst (λ (z : Source). IsSource net policy p s z.router z.peer) y.2 (is.each y.0 y.1).0;
    all = λ r peer claimed.
        let x = is.all r peer claimed in
        let same : source_in x.0 ≡ record { router = r; peer = peer } = λ i. record { router = x.2 i; peer = x.3 i } in
        subst (IsIn (map source_in base)) same (IsIn-map source_in base x.0 x.1);
    order = λ i j x y low h k.
        let a = option_map_parts source_in (slice_get base i) x (sym (slice_get-map source_in base i) ∙ h) in
        let b = option_map_parts source_in (slice_get base j) y (sym (slice_get-map source_in base j) ∙ k) in
        subst (λ (z : Source). Precedes z.router z.peer y.router y.peer) a.2 (subst (λ (z : Source). Precedes a.0.router a.0.peer z.router z.peer) b.2 (is.order i j a.0 b.0 low a.1 b.1));
  }

module _ (net : PlainNet) (policy : PlainPolicy) (f : Failures) (p : PlainPrefix) (s : PlainStatement) (c : PlainCaseEvidence) (opened : PlainGraph)
    (base : List SourceRank) (is : IsBase net policy f p s c opened base) where
  -- the base with the ranks that tops tell under a cut
  pub reranking : (cut : Cut) (top : ℕ → Option ℕ) → AreTops net (with_cut cut f) c top
      → IsRanking net policy (with_cut cut f) p s (map (reranked (rank_under opened (with_cut cut no_failures) top)) base)
  reranking cut top tops =
      let left = left_by net is.left.survivors c.graph in
      let rank = rank_under left (with_cut cut no_failures) top in
      let told = ranks_told net policy p s c f (with_cut cut no_failures) (with_cut cut f) (cut_besides cut f) is.left.survivors is.left.are (is.told (with_cut cut f)) top tops in
      let mine : IsRanking net policy (with_cut cut f) p s (map (reranked rank) base) = subst (IsRanking net policy (with_cut cut f) p s) (map-map (with_rank rank) source_in base)
      (ranking net policy p s (with_cut cut f) (map source_in base) rank (ranked_sources net policy p s f base is.ranking) told) in
      subst (λ (g : PlainGraph). IsRanking net policy (with_cut cut f) p s (map (reranked (rank_under g (with_cut cut no_failures) top)) base)) (sym is.left.is) mine

-- so what a cut changes is told by its tops
pub change_by_tops : (net : PlainNet) (c : PlainCaseEvidence) (opened : PlainGraph) (base : List SourceRank) (cut : Cut) (top : ℕ → Option ℕ) (list : List SourceRank)
    → ((s : PlainStatement) (f : Failures) → IsCaseGraph net s c → IsOpened net f c.graph opened → AreTops net (with_cut cut f) c top)
    → list ≡ changed base (map (reranked (rank_under opened (with_cut cut no_failures) top)) base) → IsChange net c opened base cut list
change_by_tops net c opened base cut top list tops is policy f p s based after ranked =
    let mine = reranking net policy f p s c opened base based cut top (tops s f based.on based.left) in
    is ∙ ap (changed base) (rankings_are_one net policy (with_cut cut f) p s _ after mine ranked)
