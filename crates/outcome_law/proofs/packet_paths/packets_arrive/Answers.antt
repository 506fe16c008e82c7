use Rattle.outcome_law.proofs.Longest.{packets_arrive}
use Rattle.outcome_law.proofs.packet_paths.packets_arrive.Goals as goal

pub returns : goal.returns
returns c = packets_arrive
