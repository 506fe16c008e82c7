use Rattle.event_core.proofs.OneGo.{events_settle_at_once}
use Rattle.event_core.proofs.at_once.events_settle_at_once.Goals as goal

pub returns : goal.returns
returns c = events_settle_at_once
