use Rattle.policy_lint.proofs.Whole.{one_list}
use Rattle.policy_lint.proofs.laws.one_list_of_findings_is_told.Goals as goal

pub returns : goal.returns
returns c = one_list
