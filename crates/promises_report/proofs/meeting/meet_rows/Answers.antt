use Rattle.std.proofs.Common.{◌==◌, ◌&&◌, ◌||◌, refl, ap, ◌∙◌, arith}
use Rattle.std.specs.Prelude.{nat_lt}
use Rattle.list_law.proofs.Numbers.{next_below}
use Rattle.bit_rows.specs.Tables.{has_at}
use Rattle.promises_report.specs.Tables.{meet_by}
use Rattle.promises_report.proofs.Marking.{all_set, none_yet, same_size, set_more}
use Rattle.promises_report.proofs.meeting.meet_rows.Goals as goal

pub loop-i-init : goal.loop-i-init
loop-i-init c = record {
  size = record { count = refl; bits = refl; width = refl };
  bits = λ a b low few. none_yet (has_at c.args.met.now a b) (meet_by c.args.rows.now a b) a;
}

pub loop-i-preserved : goal.loop-i-preserved
loop-i-preserved c =
    let rows = c.args.rows.now in
    let i = c.loop-i.i in
    let inv = c.loop-i.invariant in
    record {
      size = same_size c.meet_row.new.met c.loop-i.met c.args.met.now c.meet_row.ensures.size inv.size;
      bits = λ a b low few.
          set_more (has_at c.args.met.now a b) (has_at c.loop-i.met a b) (has_at c.meet_row.new.met a b) (nat_lt a i && meet_by rows a b) (a == i && meet_by rows i b)
          (inv.bits a b low few) (c.meet_row.ensures.bits a b (omega (arith, low, inv.size.count, c.requires.count)) few)
          ∙ ap (λ t. has_at c.args.met.now a b || t) (next_below a i (λ k. meet_by rows k b));
    }

pub returns-clause-bits : goal.returns-clause-bits
returns-clause-bits c = λ a b low few.
    c.loop-i.invariant.bits a b low few
    ∙ all_set (has_at c.args.met.now a b) (meet_by c.args.rows.now a b) a c.loop-i.i (omega (arith, low, c.loop-i-test.false, c.loop-i.auto.i-end))
