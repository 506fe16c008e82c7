use Rattle.graph_base.proofs.ShownWalks.{shown_walk_is}
use Rattle.graph_base.proofs.walk_laws.shown_walk_is_a_function.Goals as goal

pub returns : goal.returns
returns c = λ g n entered. shown_walk_is g entered n
