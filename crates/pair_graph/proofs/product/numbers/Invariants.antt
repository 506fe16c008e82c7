use Rattle.std.proofs.Common.{◌≡◌}
use Rattle.net_base.specs.Locations.{numbers_below}
use Rattle.pair_graph.proofs.product.numbers.Given as goal

abbrev pub invariant-loop-number : goal.invariant-loop-number
invariant-loop-number l = l.all ≡ numbers_below l.number
