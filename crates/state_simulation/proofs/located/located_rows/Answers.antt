use Rattle.std.proofs.Common.{◌||◌, ◌&&◌, eqb, arith, ap, ◌∙◌}
use Rattle.bit_rows.specs.Tables.{has_at}
use Rattle.graph_base.specs.Runs.{place_of}
use Rattle.state_simulation.proofs.Locating.{row_more}
use Rattle.state_simulation.proofs.Sizes.{size_then}
use Rattle.state_simulation.proofs.located.located_rows.Goals as goal

pub loop-node-preserved : goal.loop-node-preserved
loop-node-preserved c =
    let inv = c.loop-node.invariant in
    let old = c.loop-node.rows in
    let new = c.set.new.self in
    let node = c.loop-node.node in
    let size = c.set.ensures.size in
    record {
      size = size_then size inv.size;
      nodes = λ p n lp. row_more (place_of c.args.graph.now) node p n (has_at old p n) (has_at new p n) (inv.nodes p n (omega (arith, lp, size.count)))
          (c.set.ensures.bits p n (omega (arith, lp, size.count)) ∙ ap (λ z. has_at old p n || (eqb p z && eqb n node)) (c.number.ensures ∙ c.location.ensures));
    }
