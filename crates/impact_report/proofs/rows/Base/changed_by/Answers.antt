use Rattle.std.proofs.Common.{ℕ, List, Option, sym, subst}
use Rattle.std.proofs.lemmas.Result.{IfOk-weaker}
use Rattle.std.specs.Prelude.{◌≡◌, map}
use Rattle.impact_law.specs.BestRanks.{AreTops}
use Rattle.impact_law.specs.Cuts.{with_cut}
use Rattle.impact_law.specs.Impacts.{changed}
use Rattle.outcome_base.specs.Outcomes.{no_failures}
use Rattle.impact_law.specs.declared.impact.SourceRank.{SourceRank}
use Rattle.cut_ranks.specs.Paths.{rank_under}
use Rattle.impact_report.specs.Rows.{IsChange}
use Rattle.impact_report.specs.Sources.{reranked}
use Rattle.cut_ranks.specs.Tops.{entry_at}
use Rattle.impact_report.proofs.Ranking.{change_by_tops}
use Rattle.impact_report.proofs.rows.Base.changed_by.Goals as goal

pub returns : goal.returns
returns c =
    let base = c.args.self.now in
    let cut = c.args.cut.now in
    let e = base.paths.case.now in
    let top = entry_at c.deref.result.now in
    IfOk-weaker c.changes.result (λ (list : List SourceRank). list ≡ changed base.ranks (map (reranked (rank_under base.paths.left (with_cut cut no_failures) top)) base.ranks))
    (IsChange base.net.now e base.paths.left base.ranks cut)
    (λ list is. change_by_tops base.net.now e base.paths.left base.ranks cut top list (λ s f on opened. subst (λ (xs : List (Option ℕ)). AreTops base.net.now (with_cut cut f) e (entry_at xs))
    (sym c.deref.ensures.value) (c.in_ok-tops.ensures.tops s f on opened)) is) c.changes.ensures
