use Rattle.std.proofs.Common.{refl}
use Rattle.config_reader.proofs.order.own_numbers.Goals as goal

pub returns : goal.returns
returns c = rw (c.bits.ensures.bits, c.from.ensures, c.len.ensures.len) refl
