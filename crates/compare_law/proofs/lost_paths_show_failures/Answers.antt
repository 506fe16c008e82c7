use Rattle.compare_law.proofs.Lost.{lost_paths}
use Rattle.compare_law.proofs.lost_paths_show_failures.Goals as goal

pub returns : goal.returns
returns c = lost_paths
