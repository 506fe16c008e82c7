use Rattle.std.proofs.Common.{take}
use Rattle.std.specs.Prelude.{not, ◌&&◌}
use Rattle.graph_base.specs.Runs.{place_of}
use Rattle.outcome_base.specs.Outcomes.{is_dead, no_failures}
use Rattle.reach_prune.specs.Searches.{is_among}
use Rattle.impact_law.specs.Cuts.{with_cut}
use Rattle.cut_ranks.specs.Searching.{Visits}
use Rattle.cut_ranks.proofs.search.Search.begin.Given as goal

abbrev pub invariant-loop-start : goal.invariant-loop-start
invariant-loop-start l = Visits (λ n. is_among (take l.start-index l.start-items) n && not (is_dead (with_cut l.cut no_failures) (place_of l.graph n))) l.initial.self l.self
