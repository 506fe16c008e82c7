use Rattle.std.proofs.Common.{arith}
use Rattle.std.proofs.lemmas.Fmt.{length-decimal-le}
use Rattle.config_text.proofs.tail.Front.of.Goals as goal

pub write_digits-start-requires : goal.write_digits-start-requires
write_digits-start-requires c =
    let short = length-decimal-le 10 c.from.result (omega arith) (omega (arith, c.from.ensures, c.ranges.asn.fits)) (omega (arith, c.from.ensures, c.ranges.asn.fits)) in
    (omega (arith, short), omega arith)
