use Rattle.stage_check.proofs.Free.{cells_serve, free_pairs_stay_or_go_over, stages_are_rollouts}
use Rattle.stage_check.proofs.laws.stages_are_rollouts.Goals as goal

pub returns-clause-cells : goal.returns-clause-cells
returns-clause-cells c = cells_serve

pub returns-clause-rollouts : goal.returns-clause-rollouts
returns-clause-rollouts c = stages_are_rollouts

pub returns-clause-pairs : goal.returns-clause-pairs
returns-clause-pairs c = free_pairs_stay_or_go_over
