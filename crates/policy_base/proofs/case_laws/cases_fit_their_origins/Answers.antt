use Rattle.policy_base.proofs.KnownCases.{case_known, known_origins}
use Rattle.policy_base.proofs.case_laws.cases_fit_their_origins.Goals as goal

pub returns : goal.returns
returns c = λ net policy k case routers at rules. known_origins net policy case rules routers (case_known net policy k case at)
