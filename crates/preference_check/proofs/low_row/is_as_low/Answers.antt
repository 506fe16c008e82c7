use Rattle.preference_check.proofs.RowLemmas.{as_low, not_as_low}
use Rattle.preference_check.proofs.low_row.is_as_low.Goals as goal

pub returns-in-None-Some : goal.returns-in-None-Some
returns-in-None-Some c = not_as_low _ _ _ c.in-None-Some.is-0 c.in-None-Some.is-1

pub returns-in-Some-Some : goal.returns-in-Some-Some
returns-in-Some-Some c = as_low _ _ _ _ c.in-Some-Some.is-0 c.in-Some-Some.is-1
