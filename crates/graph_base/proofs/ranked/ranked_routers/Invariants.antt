use Rattle.graph_base.proofs.RankedRouters.{AreRankedBelow}
use Rattle.graph_base.proofs.ranked.ranked_routers.Given as goal

abbrev pub invariant-loop-i : goal.invariant-loop-i
invariant-loop-i l = AreRankedBelow l.net l.graph l.i l.set
