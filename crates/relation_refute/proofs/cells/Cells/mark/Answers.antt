use Rattle.std.proofs.Common.{ℕ, sym, ap, subst, ◌∙◌}
use Rattle.bit_rows.specs.Tables.{has_at}
use Rattle.relation_refute.specs.declared.cells.Cells.{Cells}
use Rattle.relation_refute.specs.Cells.{AreCells, round_in}
use Rattle.state_simulation.specs.Targets.{is_touched}
use Rattle.relation_refute.proofs.Celling.{noted_more, noted_same}
use Rattle.relation_refute.proofs.cells.Cells.mark.Goals as goal
use Rattle.relation_refute.proofs.cells.Cells.mark.Goals.{then-is_touched, else-is_touched}

pub loop-n-preserved : goal.loop-n-preserved
loop-n-preserved c =
    let g = c.args.maps.now.graph.now in
    let inv = c.loop-n.invariant in
    let n : ℕ = c.loop-n.n in
    let t = is_touched c.args.touched.now in
    elim c.if-is_touched.branch [
      | then-is_touched w ↦ record {
        cells = subst (AreCells g) (sym w.self-is) w.mark_row.ensures.cells;
        rounds =
            λ m k p. noted_more t k n (round_in c.loop-n.self m k) (round_in c.args.self.now m k) (round_in c.if-is_touched.self m k)
            (has_at c.args.left.now k m) c.args.round (inv.rounds m k p) w.if-is_touched.true
            (ap (λ (z : Cells). round_in z m k) w.self-is ∙ w.mark_row.ensures.rounds m k p);
      }
      | else-is_touched w ↦ record {
        cells = subst (AreCells g) (sym w.self-is) inv.cells;
        rounds =
            λ m k p. noted_same t k n (round_in c.loop-n.self m k) (round_in c.args.self.now m k) (round_in c.if-is_touched.self m k)
            (has_at c.args.left.now k m) c.args.round (inv.rounds m k p) w.if-is_touched.false
            (ap (λ (z : Cells). round_in z m k) w.self-is);
      }
    ]
