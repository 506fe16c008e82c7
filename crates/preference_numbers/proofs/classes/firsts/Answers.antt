use Rattle.std.proofs.Common.{◌≡◌, ◌<◌, true, false, arith, ap, sym, ◌∙◌}
use Rattle.bit_rows.specs.Tables.{PlainRows, has_at}
use Rattle.relation_law.specs.Numbers.{is_first}
use Rattle.state_simulation.specs.Held.{has}
use Rattle.state_simulation.proofs.Sizes.{size_then, size_where}
use Rattle.preference_numbers.proofs.ByRows.{first_more, other_more}
use Rattle.preference_numbers.proofs.classes.firsts.Goals as goal
use Rattle.preference_numbers.proofs.classes.firsts.Goals.{then-branch, else-branch}

pub loop-p-preserved : goal.loop-p-preserved
loop-p-preserved c =
    let inv = c.loop-p.invariant in
    let p = c.loop-p.p in
    let old = c.loop-p.firsts in
    let first = is_first (has c.args.relation.now) in
    elim c.if-branch.branch [
      | then-branch w ↦ (
          let is : first p ≡ true = sym c.in_ok-is_first_of_class.ensures ∙ w.if-branch.true in
          let one : 0 < old.count = omega (arith, inv.size.count, c.in_ok-firsts.ensures.count) in
          record {
            size = size_where w.firsts-is (size_then w.set.ensures.size inv.size);
            each = λ q. first_more first q p (has_at old 0 q) (has_at c.if-branch.firsts 0 q) (inv.each q) is (ap (λ (z : PlainRows). has_at z 0 q) w.firsts-is ∙ w.set.ensures.bits 0 q one);
          })
      | else-branch w ↦ (
          let is : first p ≡ false = sym c.in_ok-is_first_of_class.ensures ∙ w.if-branch.false in
          record {
            size = size_where w.firsts-is inv.size;
            each = λ q. ap (λ (z : PlainRows). has_at z 0 q) w.firsts-is ∙ other_more first q p (has_at old 0 q) (inv.each q) is;
          })
    ]
