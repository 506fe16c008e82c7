-- Nothing forbidden on the way.
use Rattle.rollout_law.proofs.Loads.{loaded_so}
use Rattle.rollout_stages.specs.Laws.{RolloutsAreSafe}
use Rattle.rollout_stages.proofs.Moments.{every_moment_of_a_rollout_is_right}
use Rattle.rollout_stages.proofs.Saying.{parts_say}

pub rollouts_are_safe : RolloutsAreSafe
rollouts_are_safe net p old new one two cs ds rules kept passes lawful kept' passes' prefix are says peers m runs es loaded =
    let say = parts_say net p old new one two are in
    every_moment_of_a_rollout_is_right net old new cs ds rules kept passes lawful kept' passes' p prefix are.mix says peers m (λ r. say r (m r) (runs r)) es (loaded_so _ _ say es loaded)
