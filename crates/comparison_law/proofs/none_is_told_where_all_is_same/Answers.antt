use Rattle.comparison_law.proofs.Told.{same_unchanged, served_alike, unchanged_same}
use Rattle.comparison_law.proofs.none_is_told_where_all_is_same.Goals as goal

pub returns-clause-same : goal.returns-clause-same
returns-clause-same c = unchanged_same

pub returns-clause-untold : goal.returns-clause-untold
returns-clause-untold c = same_unchanged

pub returns-clause-served : goal.returns-clause-served
returns-clause-served c = served_alike
