use Rattle.std.proofs.Common.{arith, sym, ◌∙◌}
use Rattle.state_simulation.proofs.rounds.Rounds.go_back.Goals as goal

pub returns-clause-sized : goal.returns-clause-sized
returns-clause-sized c = λ g was len.
    let same = c.requires.left in
    let put = c.put_rows.ensures.size in
    let width = same.width ∙ was.next.width in
    record {
      left = record { count = same.count ∙ was.next.count ∙ was.left.count; bits = same.bits ∙ was.next.bits ∙ was.left.bits; few = was.left.few };
      wide = record { room = omega (arith, width, was.wide.room); tight = omega (arith, width, was.wide.tight) };
      next = record { count = put.count ∙ sym same.count; bits = put.bits ∙ sym same.bits; width = put.width ∙ sym same.width };
      within = λ n b ln lb h. sym (c.put_rows.ensures.bits n b (omega (arith, ln, len))) ∙ h;
      touched = len;
      onwards = was.onwards;
      mask = was.mask ∙ sym width;
      looped = was.looped ∙ sym width;
    }
