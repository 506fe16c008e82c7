use Rattle.policy_law.proofs.Grown.{ranked_steps, policy_written}
use Rattle.policy_law.proofs.trees_are_what_is_read.Goals as goal

pub returns-clause-steps : goal.returns-clause-steps
returns-clause-steps c steps tokens p = ranked_steps p

pub returns-clause-items : goal.returns-clause-items
returns-clause-items c items tokens p = policy_written p
