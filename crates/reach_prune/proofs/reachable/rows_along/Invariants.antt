use Rattle.reach_prune.specs.Sweeps.{Swept}
use Rattle.reach_prune.proofs.reachable.rows_along.Given as goal

abbrev pub invariant-loop-place : goal.invariant-loop-place
invariant-loop-place l = Swept l.way l.lists.items l.place l.sweep
