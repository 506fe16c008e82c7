use Rattle.impact_law.specs.Cuts.{with_cut}
use Rattle.outcome_base.specs.Outcomes.{no_failures}
use Rattle.cut_ranks.specs.Searching.{work_left}
use Rattle.cut_ranks.proofs.Visiting.{Stage}
use Rattle.cut_ranks.proofs.search.nodes_left.Given as goal

abbrev pub invariant-search : goal.invariant-search
invariant-search l = Stage l.graph (with_cut l.cut no_failures) l.search

abbrev pub decreases-search : goal.decreases-search
decreases-search l = work_left l.search
