use Rattle.case_graphs.proofs.Within.{one_refusal}
use Rattle.case_graphs.proofs.laws.refusals_for_limits_exclude_one_another.Goals as goal

pub returns : goal.returns
returns c = one_refusal
