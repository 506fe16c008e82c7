use Rattle.std.proofs.Common.{◌≡◌, ℕ, Bool, not, get_or, arith, sym, ap, ◌∙◌}
use Rattle.bit_rows.specs.Tables.{PlainRows, has_at}
use Rattle.relation_law.specs.Views.{view_of}
use Rattle.state_simulation.specs.Targets.{is_outranked}
use Rattle.state_simulation.proofs.Masking.{above_more, above_same}
use Rattle.state_simulation.proofs.Sizes.{size_then, size_where}
use Rattle.state_simulation.proofs.pairs.add_each.Goals as goal
use Rattle.state_simulation.proofs.pairs.add_each.Goals.{then-not-is_outranked, else-not-is_outranked}

pub loop-m-preserved : goal.loop-m-preserved
loop-m-preserved c =
    let inv = c.loop-m.invariant in
    let nodes = c.peers-m-items.result.now in
    let i = c.loop-m.m-index in
    let n = c.args.n in
    let hit : ℕ → Bool = λ x. not (is_outranked (view_of c.args.maps.now.graph.now c.args.claimed.now) x n) in
    let asked : c.is_outranked.result ≡ is_outranked (view_of c.args.maps.now.graph.now c.args.claimed.now) (get_or nodes i 0) n = rw c.graph.ensures at c.is_outranked.ensures in
    elim c.if-not-is_outranked.branch [
      | then-not-is_outranked w ↦ (
          let same = w.rows-is in
          record {
            size = size_where same (size_then w.set.ensures.size inv.size);
            bits = λ r b lt. ap (λ (z : PlainRows). has_at z r b) same
                ∙ above_more nodes i b n r hit (has_at c.args.rows.now r b) (has_at c.loop-m.rows r b) c.loop-m-test.true (inv.bits r b lt) (has_at w.set.new.self r b)
                (ap not (sym asked ∙ w.if-not-is_outranked.true)) (w.set.ensures.bits r b (omega (arith, lt, inv.size.count, c.requires.rows.count)));
          })
      | else-not-is_outranked w ↦ (
          let same = w.rows-is in
          record {
            size = size_where same inv.size;
            bits = λ r b lt. ap (λ (z : PlainRows). has_at z r b) same
                ∙ above_same nodes i b n r hit (has_at c.args.rows.now r b) (has_at c.loop-m.rows r b) c.loop-m-test.true (inv.bits r b lt) (ap not (sym asked ∙ w.if-not-is_outranked.false));
          })
    ]
