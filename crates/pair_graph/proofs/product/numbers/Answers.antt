use Rattle.std.proofs.Common.{◌≡◌, ap, ◌∙◌, arith}
use Rattle.net_base.specs.Locations.{numbers_below}
use Rattle.pair_graph.proofs.product.numbers.Goals as goal

pub returns : goal.returns
returns c =
    let all : c.loop-number.number ≡ c.args.count = omega arith in
    c.loop-number.invariant ∙ ap numbers_below all
