use Rattle.policy_law.proofs.HeldNames.{names_held}
use Rattle.policy_law.proofs.lists_hold_their_names.Goals as goal

pub returns : goal.returns
returns c = names_held
