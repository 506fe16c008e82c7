use Rattle.reach_prune.proofs.Trails.{ranked_backward}
use Rattle.reach_prune.proofs.trimming.can_be_ranked.Goals as goal

pub returns-clause-kept : goal.returns-clause-kept
returns-clause-kept c = λ n lt.
    ranked_backward c.args.graph.now c.in_ok-ranked.ranked.items n _ c.in_ok-ranked.ensures.ranked (rw c.deref.ensures.value at (c.in_ok-marks.ensures.marks n lt))
