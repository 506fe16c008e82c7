use Rattle.event_core.proofs.Making.{makes_then}
use Rattle.event_core.proofs.changing.Changing.router_down.Goals as goal

pub returns : goal.returns
returns c = makes_then (makes_then c.in_ok-fall.ensures c.in_ok-to_links.ensures) c.choose_around.ensures
