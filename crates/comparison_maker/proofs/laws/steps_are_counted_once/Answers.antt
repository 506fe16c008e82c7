use Rattle.comparison_maker.proofs.Once.{one_count_of, one_passes, within_or_passed}
use Rattle.comparison_maker.proofs.laws.steps_are_counted_once.Goals as goal

pub returns-clause-one : goal.returns-clause-one
returns-clause-one c = one_count_of

pub returns-clause-within : goal.returns-clause-within
returns-clause-within c = λ net old new kept kept_too one other. within_or_passed net old new kept kept_too one other

pub returns-clause-passed : goal.returns-clause-passed
returns-clause-passed c = λ net old new kept kept_too one other this that. one_passes net old new kept kept_too one other this that
