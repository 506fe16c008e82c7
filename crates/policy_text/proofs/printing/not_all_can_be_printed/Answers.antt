use Rattle.policy_text.proofs.Counterexamples.{policies_without_text, nets_without_names}
use Rattle.policy_text.proofs.printing.not_all_can_be_printed.Goals as goal

pub returns : goal.returns
returns c = record { policies = policies_without_text; networks = nets_without_names }
