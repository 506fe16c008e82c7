use Rattle.std.proofs.Common.{◌≡◌, map, take}
use Rattle.cut_ranks.specs.Tops.{entry_at}
use Rattle.impact_law.specs.Cuts.{with_cut}
use Rattle.impact_law.specs.Impacts.{changed}
use Rattle.outcome_base.specs.Outcomes.{no_failures}
use Rattle.cut_ranks.specs.Paths.{rank_under}
use Rattle.impact_report.specs.Sources.{reranked}
use Rattle.impact_report.proofs.rows.Base.changes.Given as goal

abbrev pub invariant-loop-entry : goal.invariant-loop-entry
invariant-loop-entry l =
    l.changed ≡ changed (take l.entry-index l.entry-items) (map (reranked (rank_under l.self.paths.left (with_cut l.cut no_failures) (entry_at l.tops))) (take l.entry-index l.entry-items))
