use Rattle.std.proofs.Common.{length, ap, arith}
use Rattle.config_text.proofs.ShortNames.{length_name}
use Rattle.config_text.proofs.tail.Tail.put_name.Goals as goal

pub put-requires : goal.put-requires
put-requires c = omega (arith, ap length c.as_bytes.ensures.bytes, length_name c.args.name.now c.as_bytes.ensures.name, c.requires)

pub returns-clause-len : goal.returns-clause-len
returns-clause-len c = omega (arith, ap length c.as_bytes.ensures.bytes, length_name c.args.name.now c.as_bytes.ensures.name, c.put.ensures.len)
