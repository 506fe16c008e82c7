use Rattle.policy_text.proofs.PrintingReadPolicies.{read_again}
use Rattle.policy_text.proofs.printing.policies_that_are_read_are_read_again.Goals as goal

pub returns : goal.returns
returns c = read_again
