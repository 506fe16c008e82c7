use Rattle.graph_base.proofs.ShownWalks.{shown_walk_same}
use Rattle.graph_base.proofs.walk_laws.shown_walk_is_unique.Goals as goal

pub returns : goal.returns
returns c = shown_walk_same
