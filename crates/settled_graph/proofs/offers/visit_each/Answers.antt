use Rattle.std.proofs.Common.{take, take_all, subst, refl, List, ℕ}
use Rattle.settled_graph.specs.Offers.{AreLowest}
use Rattle.settled_graph.proofs.Lowest.{through, through_next}
use Rattle.settled_graph.proofs.offers.visit_each.Goals as goal

pub loop-to-preserved : goal.loop-to-preserved
loop-to-preserved c = record {
  size = c.visit.ensures.size;
  nodes = c.visit.ensures.nodes;
  lowest = λ passes are.
      let before = c.loop-to.invariant.lowest passes are in
      through_next c.args.net.now c.args.graph.now c.args.numbers.now c.args.wanted.now passes c.args.from _ c.loop-to.to-index _ c.args.nodes.now c.visit.new.offers.items c.loop-to-test.true refl
      (c.visit.ensures.lowest (through passes c.args.from (take c.loop-to.to-index c.args.nodes.now)) before);
}

pub returns-clause-lowest : goal.returns-clause-lowest
returns-clause-lowest c = λ passes are.
    subst (λ (xs : List ℕ). AreLowest c.args.net.now c.args.graph.now c.args.numbers.now c.args.wanted.now (through passes c.args.from xs) c.loop-to.offers.items)
    (take_all c.loop-to.to-index c.args.nodes.now c.loop-to-test.false) (c.loop-to.invariant.lowest passes are)
