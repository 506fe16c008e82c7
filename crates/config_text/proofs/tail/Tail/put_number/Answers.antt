use Rattle.std.proofs.Common.{length, drop, ap, arith, rules, length-append, length-drop}
use Rattle.std.specs.Fmt.{decimal}
use Rattle.std.proofs.lemmas.Fmt.{length-decimal-le}
use Rattle.config_text.proofs.tail.Tail.put_number.Goals as goal

pub write_digits-self-inside-requires : goal.write_digits-self-inside-requires
write_digits-self-inside-requires c =
    let short = length-decimal-le 10 c.from.result (omega arith) (omega (arith, c.from.ensures, c.ranges.number.fits)) (omega (arith, c.from.ensures, c.ranges.number.fits)) in
    (omega (arith, short, c.requires, ap length c.self.view_is, length-drop c.self.inside.start c.self.inside.bytes, c.self.invariant), search rules)

pub returns-clause-len : goal.returns-clause-len
returns-clause-len c =
    let short = length-decimal-le 10 c.from.result (omega arith) (omega (arith, c.from.ensures, c.ranges.number.fits)) (omega (arith, c.from.ensures, c.ranges.number.fits)) in
    omega (arith, short, ap length c.write_digits-self-inside.ensures.written, length-append (decimal c.from.result) (drop c.self.inside.start c.self.inside.bytes), ap length c.self.view_is)
