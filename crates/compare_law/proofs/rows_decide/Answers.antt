use Rattle.compare_law.proofs.Rows.{rows_decide}
use Rattle.compare_law.proofs.rows_decide.Goals as goal

pub returns : goal.returns
returns c = rows_decide
