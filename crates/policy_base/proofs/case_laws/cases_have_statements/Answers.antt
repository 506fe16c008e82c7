use Rattle.policy_base.proofs.KnownCases.{case_known}
use Rattle.policy_base.proofs.case_laws.cases_have_statements.Goals as goal

pub returns : goal.returns
returns c = λ net policy k case at. (case_known net policy k case at).statement
