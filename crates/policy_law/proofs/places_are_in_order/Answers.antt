use Rattle.policy_law.proofs.Places.{policies_in_order}
use Rattle.policy_law.proofs.places_are_in_order.Goals as goal

pub returns : goal.returns
returns c = policies_in_order
