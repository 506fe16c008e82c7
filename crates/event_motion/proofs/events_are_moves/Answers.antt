use Rattle.event_motion.proofs.Played.{events_are_moves}
use Rattle.event_motion.proofs.events_are_moves.Goals as goal

pub returns : goal.returns
returns c = events_are_moves
