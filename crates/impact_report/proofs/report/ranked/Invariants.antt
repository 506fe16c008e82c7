use Rattle.std.proofs.Common.{◌≡◌, map, take}
use Rattle.cut_ranks.specs.Tops.{entry_at}
use Rattle.impact_law.specs.BestRanks.{rank_by}
use Rattle.impact_report.specs.Sources.{with_rank}
use Rattle.impact_report.proofs.report.ranked.Given as goal

abbrev pub invariant-loop-source : goal.invariant-loop-source
invariant-loop-source l = l.ranks ≡ map (with_rank (rank_by l.paths.left (entry_at l.tops))) (take l.source-index l.sources)
