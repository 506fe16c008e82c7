use Rattle.std.proofs.Common.{arith, sym, ◌∙◌}
use Rattle.state_simulation.proofs.copies.copied.Goals as goal

pub put_rows-requires-clause-same : goal.put_rows-requires-clause-same
put_rows-requires-clause-same c =
    let made = c.in_ok-copy.ensures in
    record {
      count = c.requires.square.count ∙ sym made.count;
      bits = c.requires.square.bits ∙ sym made.bits;
      width = omega (arith, made.bits, made.table.room, made.table.tight, c.requires.wide.room, c.requires.wide.tight);
    }

pub returns-clause-size : goal.returns-clause-size
returns-clause-size c =
    let made = c.in_ok-copy.ensures in
    let put = c.put_rows.ensures.size in
    record {
      count = put.count ∙ made.count ∙ sym c.requires.square.count;
      bits = put.bits ∙ made.bits ∙ sym c.requires.square.bits;
      width = omega (arith, put.width, made.bits, made.table.room, made.table.tight, c.requires.wide.room, c.requires.wide.tight);
    }
