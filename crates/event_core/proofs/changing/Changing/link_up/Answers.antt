use Rattle.event_core.proofs.Making.{makes_then}
use Rattle.event_core.proofs.changing.Changing.link_up.Goals as goal

pub returns : goal.returns
returns c = makes_then c.in_ok-cut.ensures c.to_link.ensures
