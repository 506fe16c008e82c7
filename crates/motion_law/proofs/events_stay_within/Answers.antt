use Rattle.motion_law.proofs.Events.{events_stay_within}
use Rattle.motion_law.proofs.events_stay_within.Goals as goal

pub returns : goal.returns
returns c = events_stay_within
