use Rattle.rollout_rest.proofs.Rest.{readers_come_to_rest, resting_readers_are_at_rest, resting_readers_are_settled}
use Rattle.rollout_rest.proofs.Settled.{resting_readers_hold_its_tags}
use Rattle.rollout_rest.proofs.readers_come_to_rest.Goals as goal

pub returns-clause-tags : goal.returns-clause-tags
returns-clause-tags c = resting_readers_hold_its_tags

pub returns-clause-settled : goal.returns-clause-settled
returns-clause-settled c = resting_readers_are_settled

pub returns-clause-rest : goal.returns-clause-rest
returns-clause-rest c = resting_readers_are_at_rest

pub returns-clause-comes : goal.returns-clause-comes
returns-clause-comes c = readers_come_to_rest
