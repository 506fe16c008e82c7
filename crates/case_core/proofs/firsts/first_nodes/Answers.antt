use Rattle.std.proofs.Common.{Vec, ap, arith}
use Rattle.case_core.specs.declared.firsts.Firsts.{Firsts}
use Rattle.case_core.proofs.Table.{row_next, row_same}
use Rattle.case_core.proofs.firsts.first_nodes.Goals as goal
use Rattle.case_core.proofs.firsts.first_nodes.Goals.{then-place-len, else-place-len}

pub loop-i-preserved : goal.loop-i-preserved
loop-i-preserved c =
    let table = c.loop-i.table.items in
    let after = c.if-place-len.table.items in
    elim c.if-place-len.branch [
      | then-place-len w ↦
          row_next c.args.routers c.args.graph.now c.nodes-nodes.result.now c.loop-i.i c.number-place.result c.index-nodes-i.result w.index.result.now w.with_node.result table after
          c.loop-i.invariant c.nodes-nodes.ensures.nodes c.loop-i-test.true c.index-nodes-i.is c.number-place.ensures
          (omega (arith, w.if-place-len.true, c.len.ensures, c.loop-i.table.ok.0)) w.index.ensures w.with_node.ensures (ap (λ (v : Vec Firsts _). v.items) w.table-is)
      | else-place-len w ↦
          row_same c.args.routers c.args.graph.now c.nodes-nodes.result.now c.loop-i.i c.number-place.result c.index-nodes-i.result table after
          c.loop-i.invariant c.nodes-nodes.ensures.nodes c.loop-i-test.true c.index-nodes-i.is c.number-place.ensures
          (omega (arith, w.if-place-len.false, c.len.ensures, c.loop-i.table.ok.0)) (ap (λ (v : Vec Firsts _). v.items) w.table-is)
    ]
