use Rattle.std.proofs.Common.{refl}
use Rattle.policy_law.proofs.ranks_stand_beside_calls.Goals as goal

pub returns-clause-under : goal.returns-clause-under
returns-clause-under c a b d p = refl

pub returns-clause-alone : goal.returns-clause-alone
returns-clause-alone c a b p = refl
