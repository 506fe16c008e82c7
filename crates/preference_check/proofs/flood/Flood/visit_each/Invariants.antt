use Rattle.std.proofs.Common.{take}
use Rattle.reach_prune.specs.Searches.{is_among}
use Rattle.preference_check.specs.Floods.{Marks}
use Rattle.preference_check.proofs.flood.Flood.visit_each.Given as goal

abbrev pub invariant-loop-node : goal.invariant-loop-node
invariant-loop-node l = Marks l.number (is_among (take l.node-index l.nodes)) l.initial.self l.self
