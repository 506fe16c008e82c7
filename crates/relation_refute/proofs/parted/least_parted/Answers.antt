use Rattle.std.proofs.Common.{◌&&◌, ℕ, Bool, length, arith, sym, ap, ◌∙◌}
use Rattle.graph_base.specs.Graphs.{PlainGraph}
use Rattle.relation_law.specs.Rounds.{same_place}
use Rattle.relation_refute.specs.Cells.{are_parted}
use Rattle.state_simulation.specs.Looked.{shown}
use Rattle.relation_refute.proofs.Faulting.{least_at, least_none, none_more}
use Rattle.relation_refute.proofs.parted.least_parted.Goals as goal

pub returns-then-is_parted_from : goal.returns-then-is_parted_from
returns-then-is_parted_from c =
    let g : PlainGraph = c.args.maps.now.graph.now in
    let p : ℕ → Bool = λ m. same_place (shown g) m c.args.n && are_parted c.args.cells.now m c.args.n in
    let nodes = ap length c.nodes.ensures.nodes in
    let same = ap (λ (z : PlainGraph). length z.nodes) c.graph.ensures in
    least_at (length g.nodes) p c.loop-m.m (omega (arith, c.loop-m-test.true, nodes, same)) (sym c.is_parted_from.ensures ∙ c.if-is_parted_from.true) c.loop-m.invariant

pub loop-m-preserved : goal.loop-m-preserved
loop-m-preserved c =
    none_more (λ m. same_place (shown c.args.maps.now.graph.now) m c.args.n && are_parted c.args.cells.now m c.args.n) c.loop-m.m c.loop-m.invariant
    (sym c.is_parted_from.ensures ∙ c.if-is_parted_from.false)

pub returns : goal.returns
returns c =
    let g : PlainGraph = c.args.maps.now.graph.now in
    let nodes = ap length c.nodes.ensures.nodes in
    let same = ap (λ (z : PlainGraph). length z.nodes) c.graph.ensures in
    least_none (length g.nodes) (λ m. same_place (shown g) m c.args.n && are_parted c.args.cells.now m c.args.n) (λ k lk. c.loop-m.invariant k (omega (arith, lk, c.loop-m-test.false, nodes, same)))
