use Rattle.std.proofs.Common.{take}
use Rattle.std.specs.Prelude.{◌&&◌}
use Rattle.graph_base.specs.Runs.{place_of}
use Rattle.reach_prune.specs.Searches.{is_among}
use Rattle.impact_law.specs.Cuts.{with_cut}
use Rattle.outcome_base.specs.Outcomes.{no_failures}
use Rattle.cut_ranks.specs.Left.{spares}
use Rattle.cut_ranks.specs.Searching.{Visits}
use Rattle.cut_ranks.proofs.search.Search.follow.Given as goal

abbrev pub invariant-loop-node : goal.invariant-loop-node
invariant-loop-node l = Visits (λ n. is_among (take l.node-index l.nodes) n && spares (with_cut l.cut no_failures) l.from (place_of l.graph n)) l.initial.self l.self
