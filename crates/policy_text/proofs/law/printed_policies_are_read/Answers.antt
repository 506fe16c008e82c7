use Rattle.policy_text.proofs.PrintedPolicies.{spelled-policy_text}
use Rattle.policy_text.proofs.law.printed_policies_are_read.Goals as goal

pub returns : goal.returns
returns c = λ net policy is named values printable. spelled-policy_text net policy is named values printable
