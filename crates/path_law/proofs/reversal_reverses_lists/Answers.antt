use Rattle.path_law.proofs.Reversal.{member-reversed}
use Rattle.path_law.proofs.reversal_reverses_lists.Goals as goal

pub returns : goal.returns
returns c = member-reversed
