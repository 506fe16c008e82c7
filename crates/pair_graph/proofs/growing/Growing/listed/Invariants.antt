use Rattle.std.proofs.Common.{◌≡◌, take}
use Rattle.pair_graph.proofs.growing.Growing.listed.Given as goal

abbrev pub invariant-loop-number : goal.invariant-loop-number
invariant-loop-number l = l.pairs.items ≡ take l.number l.self.pairs.keys
