use Rattle.policy_law.proofs.RankMarks.{first_rank_told}
use Rattle.policy_law.proofs.first_rank_is_told.Goals as goal

pub returns : goal.returns
returns c = first_rank_told
