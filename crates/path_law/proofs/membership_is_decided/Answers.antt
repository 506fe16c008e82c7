use Rattle.path_law.proofs.Members.{member-Member}
use Rattle.path_law.proofs.membership_is_decided.Goals as goal

pub returns : goal.returns
returns c = member-Member
