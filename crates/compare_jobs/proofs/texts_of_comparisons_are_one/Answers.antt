use Rattle.compare_jobs.proofs.Telling.{one_text}
use Rattle.compare_jobs.proofs.texts_of_comparisons_are_one.Goals as goal

pub returns : goal.returns
returns c = one_text
