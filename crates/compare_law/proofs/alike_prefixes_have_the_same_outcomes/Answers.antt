use Rattle.compare_law.proofs.Same.{right_alike, stable_alike}
use Rattle.compare_law.proofs.alike_prefixes_have_the_same_outcomes.Goals as goal

pub returns-clause-stable : goal.returns-clause-stable
returns-clause-stable c = stable_alike

pub returns-clause-right : goal.returns-clause-right
returns-clause-right c = right_alike
