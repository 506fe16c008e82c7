use Rattle.std.proofs.Common.{◌≡◌, ◌||◌, length, refl, sym, ap, ◌∙◌, arith}
use Rattle.std.specs.List.{list_any}
use Rattle.std.proofs.Math.Bool.{or-false}
use Rattle.bit_rows.specs.Tables.{has_at}
use Rattle.net_base.specs.Locations.{numbers_below}
use Rattle.promises_report.specs.Tables.{node_sets}
use Rattle.promises_report.proofs.Marking.{any_next, same_size, set_more, table_kept}
use Rattle.promises_report.proofs.source_ranks.mark_nodes.Goals as goal

pub mark_node-requires-clause-size : goal.mark_node-requires-clause-size
mark_node-requires-clause-size c = table_kept c.args.net.now c.args.ranks c.loop-node.rows c.args.rows.now c.loop-node.invariant.size c.requires.size

pub loop-node-init : goal.loop-node-init
loop-node-init c = record {
  size = record { count = refl; bits = refl; width = refl };
  bits = λ n b low. sym (or-false (has_at c.args.rows.now n b));
}

pub loop-node-preserved : goal.loop-node-preserved
loop-node-preserved c =
    let net = c.args.net.now in
    let g = c.args.graph.now in
    let q = c.loop-node.node in
    record {
      size = same_size c.mark_node.new.rows c.loop-node.rows c.args.rows.now c.mark_node.ensures.size c.loop-node.invariant.size;
      bits = λ n b low.
          set_more (has_at c.args.rows.now n b) (has_at c.loop-node.rows n b) (has_at c.mark_node.new.rows n b) (list_any (node_sets net g n b) (numbers_below q)) (node_sets net g n b q)
          (c.loop-node.invariant.bits n b low) (c.mark_node.ensures.bits n b low)
          ∙ ap (λ z. has_at c.args.rows.now n b || z) (sym (any_next (node_sets net g n b) q));
    }

pub returns-clause-bits : goal.returns-clause-bits
returns-clause-bits c = λ n b low.
    let g = c.args.graph.now in
    let all : c.loop-node.node ≡ length g.nodes = omega (arith, c.loop-node-test.false, c.loop-node.auto.node-end, ap length c.nodes.ensures.nodes) in
    c.loop-node.invariant.bits n b low ∙ ap (λ m. has_at c.args.rows.now n b || list_any (node_sets c.args.net.now g n b) (numbers_below m)) all
