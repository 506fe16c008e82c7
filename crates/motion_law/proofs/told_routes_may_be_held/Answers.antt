use Rattle.motion_law.proofs.Told.{what_is_told_may_be_held}
use Rattle.motion_law.proofs.told_routes_may_be_held.Goals as goal

pub returns : goal.returns
returns c = what_is_told_may_be_held
