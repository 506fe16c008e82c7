use Rattle.std.proofs.Common.{◌≡◌, ℕ, List, Option, map, sym, ap, ◌∙◌, subst}
use Rattle.graph_base.specs.Graphs.{PlainGraph}
use Rattle.evidence_base.specs.Made.{PlainCaseEvidence}
use Rattle.evidence_law.specs.Passes.{IsCaseGraph}
use Rattle.settled_outcome.specs.Surviving.{left_by}
use Rattle.impact_law.specs.BestRanks.{AreTops, rank_by}
use Rattle.cut_ranks.specs.Left.{IsOpened}
use Rattle.impact_report.specs.Rows.{AreRows}
use Rattle.impact_report.specs.Sources.{with_rank}
use Rattle.cut_ranks.specs.Tops.{entry_at}
use Rattle.impact_report.proofs.report.found_by.Goals as goal

pub returns : goal.returns
returns c =
    let net = c.args.net.now in
    let case = c.args.case.now in
    let paths = c.in_ok-paths.paths in
    let left = left_by net c.args.survivors.now case.graph in
    let top = entry_at c.in_ok-tops.tops.items in
    let ranks = c.in_ok-ranks.ranks in
    let same : paths.case.now ≡ case = c.in_ok-paths.ensures.case in
    let here : paths.left ≡ left = c.in_ok-paths.ensures.left in
    record {
      top = top;
      tops = λ s f on opened. subst (λ (d : PlainCaseEvidence). AreTops net f d top) same
          (c.in_ok-tops.ensures.tops s f (subst (IsCaseGraph net s) (sym same) on)
          (subst (λ (d : PlainCaseEvidence). IsOpened net f d.graph paths.left) (sym same) (subst (IsOpened net f case.graph) (sym here) opened)));
      base =
          c.in_ok-ranks.ensures ∙ ap (λ (xs : List (Option ℕ)). map (with_rank (rank_by paths.left (entry_at xs))) c.args.sources.now) c.deref.ensures.value
          ∙ ap (λ (g : PlainGraph). map (with_rank (rank_by g top)) c.args.sources.now) here;
      rows = subst (λ (d : PlainCaseEvidence). AreRows net d left ranks c.args.cuts.now c.in_ok-rows.rows) same
          (subst (λ (g : PlainGraph). AreRows net paths.case.now g ranks c.args.cuts.now c.in_ok-rows.rows) here c.in_ok-rows.ensures);
    }
