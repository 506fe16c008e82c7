use Rattle.event_core.proofs.Making.{makes_then}
use Rattle.event_core.proofs.changing.Changing.silence.Goals as goal

pub returns : goal.returns
returns c = makes_then c.in_ok-make.ensures c.tell.ensures
