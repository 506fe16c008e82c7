use Rattle.routing_law.proofs.Sound.{sound}
use Rattle.routing_law.proofs.graph_paths_are_sound.Goals as goal

pub returns : goal.returns
returns c = sound
