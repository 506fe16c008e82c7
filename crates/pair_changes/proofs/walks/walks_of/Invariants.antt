use Rattle.std.proofs.Common.{take}
use Rattle.pair_changes.specs.Walks.{AreWalks}
use Rattle.pair_changes.proofs.walks.walks_of.Given as goal

abbrev pub invariant-loop-place : goal.invariant-loop-place
invariant-loop-place l = AreWalks l.both.graph l.firsts l.peer (take l.place l.rows) l.walks
