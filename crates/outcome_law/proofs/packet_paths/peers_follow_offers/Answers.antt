use Rattle.outcome_law.proofs.Packets.{peers_follow_offers}
use Rattle.outcome_law.proofs.packet_paths.peers_follow_offers.Goals as goal

pub returns : goal.returns
returns c = peers_follow_offers
