use Rattle.std.proofs.Common.{◌<◌, ◌||◌, ◌&&◌, eqb, arith, ap, ◌∙◌}
use Rattle.list_law.proofs.Numbers.{next_below}
use Rattle.state_simulation.proofs.Sizes.{size_then}
use Rattle.state_simulation.proofs.apart.own_rows.Goals as goal

pub loop-node-preserved : goal.loop-node-preserved
loop-node-preserved c =
    let inv = c.loop-node.invariant in
    let old = c.loop-node.rows in
    let node = c.loop-node.node in
    let size = c.set.ensures.size in
    record {
      size = size_then size inv.size;
      bits = λ n b ln.
          let before : n < old.count = omega (arith, ln, size.count) in
          c.set.ensures.bits n b before ∙ ap (λ z. z || (eqb n node && eqb b node)) (inv.bits n b before) ∙ next_below n node (λ y. eqb b y);
    }
