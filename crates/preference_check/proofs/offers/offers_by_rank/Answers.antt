use Rattle.std.proofs.Common.{◌||◌, ◌&&◌, eqb, ap, ◌∙◌, length, lt-ltb, arith}
use Rattle.preference_check.specs.Offers.{is_good, offer_by_rank}
use Rattle.preference_check.proofs.Put.{put_rank}
use Rattle.preference_check.proofs.offers.offers_by_rank.Goals as goal

pub loop-node-preserved : goal.loop-node-preserved
loop-node-preserved c = record {
  size = c.put.ensures.size ∙ c.loop-node.invariant.size;
  offers = λ n at cost.
      c.in_ok-put.ensures.offers n at cost
      ∙ ap (λ b. b || (eqb c.loop-node.node n && is_good c.offer_by_rank.result at cost)) (c.loop-node.invariant.offers n at cost)
      ∙ put_rank c.args.graph.now c.args.claimed.now c.loop-node.node c.offer_by_rank.result c.offer_by_rank.ensures n at cost;
}

pub returns-clause-offers : goal.returns-clause-offers
returns-clause-offers c = λ n at cost lt.
    c.loop-node.invariant.offers n at cost
    ∙ ap (λ b. b && is_good (offer_by_rank c.args.graph.now c.args.claimed.now n) at cost)
    (lt-ltb n c.loop-node.node (omega (arith, lt, c.loop-node-test.false, ap length c.nodes-2.ensures.nodes)))
