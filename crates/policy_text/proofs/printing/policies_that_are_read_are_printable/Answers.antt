use Rattle.policy_text.proofs.PrintingReadPolicies.{read_printable, nets_have_names}
use Rattle.policy_text.proofs.printing.policies_that_are_read_are_printable.Goals as goal

pub returns : goal.returns
returns c = record { policies = read_printable; names = nets_have_names }
