use Rattle.policy_law.proofs.Learnt.{learnt_sense}
use Rattle.policy_law.proofs.names_have_their_sense.Goals as goal

pub returns : goal.returns
returns c = learnt_sense
