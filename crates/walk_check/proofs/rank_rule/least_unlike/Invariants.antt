use Rattle.std.proofs.Common.{take}
use Rattle.walk_check.specs.PairRanks.{IsLeastUnlike}
use Rattle.walk_check.proofs.rank_rule.least_unlike.Given as goal

abbrev pub invariant-loop-place : goal.invariant-loop-place
invariant-loop-place l = IsLeastUnlike l.live l.graph (take l.place l.pairs.keys) l.least
