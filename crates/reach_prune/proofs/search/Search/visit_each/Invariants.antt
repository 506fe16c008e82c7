use Rattle.std.proofs.Common.{take}
use Rattle.reach_prune.specs.Searches.{Visits, is_among}
use Rattle.reach_prune.proofs.search.Search.visit_each.Given as goal

abbrev pub invariant-loop-node : goal.invariant-loop-node
invariant-loop-node l = Visits (is_among (take l.node-index l.nodes)) l.initial.self l.self
