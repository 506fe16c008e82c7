use Rattle.std.proofs.Common.{refl}
use Rattle.config_reader.proofs.block.close.Goals as goal

pub returns-in_ok-push : goal.returns-in_ok-push
returns-in_ok-push c = rw (c.in-Some.is, c.in_ok-push.ensures.ok) refl
