use Rattle.path_law.proofs.Sorting.{ascends-sorted}
use Rattle.path_law.proofs.members_ascend.Goals as goal

pub returns : goal.returns
returns c = ascends-sorted
