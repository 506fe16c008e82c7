use Rattle.graph_base.proofs.ShownWalks.{shown_walk_run}
use Rattle.graph_base.proofs.walk_laws.shown_walk_leads_to_its_node.Goals as goal

pub returns : goal.returns
returns c = shown_walk_run
