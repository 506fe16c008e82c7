use Rattle.outcome_law.proofs.Packets.{packets_follow_paths}
use Rattle.outcome_law.proofs.packet_paths.packets_follow_paths.Goals as goal

pub returns : goal.returns
returns c = packets_follow_paths
