use Rattle.reach_prune.specs.Searches.{work_left}
use Rattle.reach_prune.proofs.Visiting.{Stage}
use Rattle.reach_prune.proofs.search.reached.Given as goal

abbrev pub invariant-search : goal.invariant-search
invariant-search l = Stage l.lists l.first l.search

abbrev pub decreases-search : goal.decreases-search
decreases-search l = work_left l.search
