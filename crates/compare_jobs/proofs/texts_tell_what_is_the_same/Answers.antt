use Rattle.compare_jobs.proofs.Telling.{same_policies, unchanged_texts, untold}
use Rattle.compare_jobs.proofs.texts_tell_what_is_the_same.Goals as goal

pub returns-clause-unchanged : goal.returns-clause-unchanged
returns-clause-unchanged c = unchanged_texts

pub returns-clause-same : goal.returns-clause-same
returns-clause-same c = same_policies

pub returns-clause-untold : goal.returns-clause-untold
returns-clause-untold c = untold
