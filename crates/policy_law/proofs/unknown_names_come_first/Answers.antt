use Rattle.std.proofs.Common.{refl}
use Rattle.policy_law.proofs.unknown_names_come_first.Goals as goal

pub returns : goal.returns
returns c net bytes items p others e = rw e refl
