use Rattle.policy_parser.proofs.FittingPolicies.{read_policies_fit}
use Rattle.policy_parser.proofs.fitting.policies_that_are_read_fit.Goals as goal

pub returns : goal.returns
returns c = read_policies_fit
