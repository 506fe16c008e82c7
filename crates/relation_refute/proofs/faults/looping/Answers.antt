use Rattle.std.proofs.Common.{length, arith, sym, ap, ◌∙◌}
use Rattle.graph_base.specs.Graphs.{PlainGraph}
use Rattle.relation_refute.specs.Faults.{loops_there}
use Rattle.relation_refute.proofs.Faulting.{least_at, least_none, none_more}
use Rattle.relation_refute.proofs.faults.looping.Goals as goal

pub returns-then-loops_there : goal.returns-then-loops_there
returns-then-loops_there c =
    let g : PlainGraph = c.args.maps.now.graph.now in
    let p = loops_there g c.args.fallen.now c.args.round c.args.m c.args.t in
    let nodes = ap length c.nodes.ensures.nodes in
    let same = ap (λ (z : PlainGraph). length z.nodes) c.graph.ensures in
    least_at (length g.nodes) p c.loop-k.k (omega (arith, c.loop-k-test.true, nodes, same)) (sym c.loops_there.ensures ∙ c.if-loops_there.true) c.loop-k.invariant

pub loop-k-preserved : goal.loop-k-preserved
loop-k-preserved c =
    none_more (loops_there c.args.maps.now.graph.now c.args.fallen.now c.args.round c.args.m c.args.t) c.loop-k.k c.loop-k.invariant
    (sym c.loops_there.ensures ∙ c.if-loops_there.false)

pub returns : goal.returns
returns c =
    let g : PlainGraph = c.args.maps.now.graph.now in
    let nodes = ap length c.nodes.ensures.nodes in
    let same = ap (λ (z : PlainGraph). length z.nodes) c.graph.ensures in
    least_none (length g.nodes) (loops_there g c.args.fallen.now c.args.round c.args.m c.args.t) (λ k lk. c.loop-k.invariant k (omega (arith, lk, c.loop-k-test.false, nodes, same)))
