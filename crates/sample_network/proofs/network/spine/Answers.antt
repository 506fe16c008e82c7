use Rattle.std.proofs.Common.{arith}
use Rattle.sample_network.proofs.SampleNames.{spine_named}
use Rattle.sample_network.proofs.network.spine.Goals as goal

pub numbered-requires : goal.numbered-requires
numbered-requires c = spine_named c.args.place (omega arith)
