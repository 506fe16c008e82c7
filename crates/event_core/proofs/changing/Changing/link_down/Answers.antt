use Rattle.event_core.proofs.Making.{makes_then}
use Rattle.event_core.proofs.changing.Changing.link_down.Goals as goal

pub returns : goal.returns
returns c = makes_then (makes_then (makes_then c.in_ok-cut.ensures c.in_ok-to_link.ensures) c.in_ok-choose_again.ensures) c.choose_again-2.ensures
