use Rattle.restless_law.proofs.Equal.{without_lengths}
use Rattle.restless_law.proofs.Free.{with_free_ties}
use Rattle.restless_law.proofs.premises_are_needed.Goals as goal

pub returns-clause-ties : goal.returns-clause-ties
returns-clause-ties c = with_free_ties

pub returns-clause-lengths : goal.returns-clause-lengths
returns-clause-lengths c = without_lengths
