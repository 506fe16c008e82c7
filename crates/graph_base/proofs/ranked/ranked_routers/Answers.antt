use Rattle.std.proofs.Common.{ap, subst, sym, arith, ◌∙◌, ◌≡◌, ◌+◌, suc, length}
use Rattle.graph_base.proofs.NodesRead.{node_read}
use Rattle.net_base.specs.declared.loc.LocSet.{LocSet}
use Rattle.net_base.specs.Sets.{holds}
use Rattle.graph_base.proofs.RankedRouters.{AreRankedBelow, are_ranked_routers, with_ranked, without_ranked}
use Rattle.graph_base.proofs.ranked.ranked_routers.Goals as goal
use Rattle.graph_base.proofs.ranked.ranked_routers.Goals.{then-is_ranked, else-is_ranked}

pub loop-i-preserved : goal.loop-i-preserved
loop-i-preserved c =
    let net = c.args.net.now in
    let g = c.args.graph.now in
    let i = c.loop-i.i in
    let node = c.index-nodes-i.result in
    let there = node_read g c.nodes-nodes.result.now i node c.nodes-nodes.ensures.nodes c.loop-i-test.true c.index-nodes-i.is in
    let next : suc i ≡ i + 1 = omega arith in
    subst (λ n. AreRankedBelow net g n c.if-is_ranked.set) next
    (elim c.if-is_ranked.branch [
      | then-is_ranked w ↦
          with_ranked net g i node there.0 there.1 c.loop-i.set c.if-is_ranked.set (sym c.is_ranked.ensures.exact ∙ w.if-is_ranked.true)
          c.loop-i.invariant (λ x. ap (λ (set : LocSet). holds set x) w.set-is ∙ w.insert.ensures x)
      | else-is_ranked w ↦
          subst (AreRankedBelow net g (suc i)) (sym w.set-is) (without_ranked net g i node there.0 there.1 c.loop-i.set (sym c.is_ranked.ensures.exact ∙ w.if-is_ranked.false) c.loop-i.invariant)
    ])

pub returns : goal.returns
returns c =
    let all : c.loop-i.i ≡ length c.args.graph.now.nodes = omega (arith, c.loop-i-test.false, c.loop-i.auto.i-end, ap length c.nodes-nodes.ensures.nodes) in
    are_ranked_routers c.args.net.now c.args.graph.now c.loop-i.i c.loop-i.set c.loop-i.invariant all
