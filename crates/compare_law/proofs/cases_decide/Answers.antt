use Rattle.compare_law.proofs.Cases.{cases_decide, pairs_decide}
use Rattle.compare_law.proofs.Unsaid.{nothing_said}
use Rattle.compare_law.proofs.cases_decide.Goals as goal

pub returns-clause-one : goal.returns-clause-one
returns-clause-one c = cases_decide

pub returns-clause-pairs : goal.returns-clause-pairs
returns-clause-pairs c = pairs_decide

pub returns-clause-nothing : goal.returns-clause-nothing
returns-clause-nothing c = nothing_said
