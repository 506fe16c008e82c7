use Rattle.outcome_law.proofs.Packets.{packets_take_best_paths}
use Rattle.outcome_law.proofs.packet_paths.packets_take_best_paths.Goals as goal

pub returns : goal.returns
returns c = packets_take_best_paths
