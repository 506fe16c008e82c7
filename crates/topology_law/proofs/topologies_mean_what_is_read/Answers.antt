use Rattle.topology_law.proofs.Topologies.{topologies_are_meant}
use Rattle.topology_law.proofs.topologies_mean_what_is_read.Goals as goal

pub returns : goal.returns
returns c = topologies_are_meant
