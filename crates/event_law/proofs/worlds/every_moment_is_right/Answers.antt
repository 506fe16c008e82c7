use Rattle.event_law.proofs.Moments.{every_moment_is_right}
use Rattle.event_law.proofs.worlds.every_moment_is_right.Goals as goal

pub returns : goal.returns
returns c = every_moment_is_right
