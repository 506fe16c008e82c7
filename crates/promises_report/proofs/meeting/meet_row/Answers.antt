use Rattle.std.proofs.Common.{◌==◌, ◌&&◌, ◌||◌, refl, sym, ap, ◌∙◌, arith}
use Rattle.std.specs.Prelude.{nat_lt}
use Rattle.std.proofs.lemmas.Bool.{eqb-true}
use Rattle.list_law.proofs.Numbers.{next_below}
use Rattle.bit_rows.specs.Tables.{has_at}
use Rattle.promises_report.specs.Tables.{meet_by}
use Rattle.promises_report.proofs.Marking.{all_set, in_row, none_yet, same_size, set_more, turned}
use Rattle.promises_report.proofs.meeting.meet_row.Goals as goal

pub loop-j-init : goal.loop-j-init
loop-j-init c = record {
  size = record { count = refl; bits = refl; width = refl };
  bits = λ a b low. none_yet (has_at c.args.met.now a b) (a == c.args.i && meet_by c.args.rows.now a b) b;
}

pub loop-j-preserved : goal.loop-j-preserved
loop-j-preserved c =
    let rows = c.args.rows.now in
    let i = c.args.i in
    let j = c.loop-j.j in
    let inv = c.loop-j.invariant in
    record {
      size = same_size c.meet_pair.new.met c.loop-j.met c.args.met.now c.meet_pair.ensures.size inv.size;
      bits = λ a b low.
          let more = turned (a == i) (b == j) (meet_by rows i j) (meet_by rows a j) (λ h. ap (λ k. meet_by rows k j) (sym (eqb-true a i h))) in
          set_more (has_at c.args.met.now a b) (has_at c.loop-j.met a b) (has_at c.meet_pair.new.met a b) (nat_lt b j && (a == i && meet_by rows a b)) (b == j && (a == i && meet_by rows a j))
          (inv.bits a b low) (c.meet_pair.ensures.bits a b (omega (arith, low, inv.size.count)) ∙ ap (λ t. has_at c.loop-j.met a b || t) more)
          ∙ ap (λ t. has_at c.args.met.now a b || t) (next_below b j (λ k. a == i && meet_by rows a k));
    }

pub returns-clause-bits : goal.returns-clause-bits
returns-clause-bits c = λ a b low few.
    let rows = c.args.rows.now in
    c.loop-j.invariant.bits a b low
    ∙ all_set (has_at c.args.met.now a b) (a == c.args.i && meet_by rows a b) b c.loop-j.j (omega (arith, few, c.loop-j-test.false, c.loop-j.auto.j-end))
    ∙ ap (λ t. has_at c.args.met.now a b || t) (in_row (a == c.args.i) (meet_by rows a b) (meet_by rows c.args.i b) (λ h. ap (λ k. meet_by rows k b) (eqb-true a c.args.i h)))
