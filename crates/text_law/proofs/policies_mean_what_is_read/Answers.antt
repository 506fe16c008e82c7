use Rattle.text_law.proofs.OneMeaning.{one_meaning}
use Rattle.text_law.proofs.Policies.{read_policies_are_meant}
use Rattle.text_law.proofs.policies_mean_what_is_read.Goals as goal

pub returns-clause-only : goal.returns-clause-only
returns-clause-only c = read_policies_are_meant

pub returns-clause-one : goal.returns-clause-one
returns-clause-one c = one_meaning
