use Rattle.std.proofs.Common.{refl}
use Rattle.config_reader.proofs.order.tag_numbers.Goals as goal

pub returns : goal.returns
returns c = refl
