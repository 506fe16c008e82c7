use Rattle.std.proofs.Common.{◌&&◌, ◌||◌, not, eqb, get_or, take, arith, sym, ap, ◌∙◌}
use Rattle.bit_rows.specs.Bits.{has}
use Rattle.bit_rows.specs.Tables.{has_at}
use Rattle.reach_prune.specs.Searches.{is_among}
use Rattle.state_simulation.proofs.Masking.{among_more, kept_more}
use Rattle.state_simulation.proofs.Sizes.{size_then}
use Rattle.state_simulation.proofs.taking.keep_each.Goals as goal

pub loop-n-preserved : goal.loop-n-preserved
loop-n-preserved c =
    let inv = c.loop-n.invariant in
    let nodes = c.args.nodes.now in
    let i = c.loop-n.n-index in
    record {
      size = size_then c.keep.ensures.size inv.size;
      bits = λ r b lt.
          c.keep.ensures.bits r b (omega (arith, lt, inv.size.count)) ∙ ap (λ z. z && (not (eqb r (get_or nodes i 0)) || has c.args.mask.now b)) (inv.bits r b lt)
          ∙ kept_more (has_at c.args.rows.now r b) (is_among (take i nodes) r) (eqb r (get_or nodes i 0)) (has c.args.mask.now b)
          ∙ ap (λ z. has_at c.args.rows.now r b && (not z || has c.args.mask.now b)) (sym (among_more nodes i r c.loop-n-test.true));
    }
