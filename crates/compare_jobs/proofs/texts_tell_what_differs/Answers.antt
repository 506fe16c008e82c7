use Rattle.compare_jobs.proofs.Telling.{told}
use Rattle.compare_jobs.proofs.texts_tell_what_differs.Goals as goal

pub returns : goal.returns
returns c = told
