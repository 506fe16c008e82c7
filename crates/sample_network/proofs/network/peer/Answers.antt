use Rattle.std.proofs.Common.{arith}
use Rattle.sample_network.proofs.SampleNames.{peer_named}
use Rattle.sample_network.proofs.network.peer.Goals as goal

pub numbered-requires : goal.numbered-requires
numbered-requires c = peer_named c.args.place (omega arith)
