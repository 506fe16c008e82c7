use Rattle.routing_law.proofs.Used.{used_paths_are_sound}
use Rattle.routing_law.proofs.used_paths_are_sound.Goals as goal

pub returns : goal.returns
returns c = used_paths_are_sound
