-- A change is safe, there and back.
use Rattle.net_base.specs.Network.{PlainNet}
use Rattle.net_base.specs.Prefixes.{PlainPrefix, IsPrefix}
use Rattle.rollout_base.specs.Mixtures.{Part}
use Rattle.rollout_base.specs.Stages.{AreStages}
use Rattle.rollout_stages.proofs.Saying.{rollouts_have_stages}
use Rattle.rollout_rest.proofs.Rollouts.{rollouts_are_right, stages_lead_back}
use Rattle.renewal_law.specs.Change.{IsChange}
use Rattle.renewal_law.specs.Laws.{ChangesAreSafe, ChangesLeadBack}
use Rattle.renewal_law.specs.Phases.{stage_one, stage_two}

module _ (net : PlainNet) (p : PlainPrefix) (old new : Part) (is : IsChange net old new) (prefix : IsPrefix p) where
  there : AreStages net p old new (stage_one old new) (stage_two old new)
  there = rollouts_have_stages net p old new (stage_one old new) (stage_two old new) (is.stages net old.policy new.policy p prefix)

  back : AreStages net p new old (stage_two old new) (stage_one old new)
  back = stages_lead_back net p old new (stage_one old new) (stage_two old new) there

pub changes_are_safe : ChangesAreSafe
changes_are_safe net p old new is prefix =
    rollouts_are_right net p old new (stage_one old new) (stage_two old new) is.old_passes.0 is.new_passes.0 is.network
    is.old_policy is.old_passes.1 is.old_config is.new_policy is.new_passes.1 prefix (there net p old new is prefix)

pub changes_lead_back : ChangesLeadBack
changes_lead_back net p old new is prefix =
    rollouts_are_right net p new old (stage_two old new) (stage_one old new) is.new_passes.0 is.old_passes.0 is.network
    is.new_policy is.new_passes.1 is.new_config is.old_policy is.old_passes.1 prefix (back net p old new is prefix)
