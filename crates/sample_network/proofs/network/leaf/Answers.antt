use Rattle.std.proofs.Common.{arith}
use Rattle.sample_network.proofs.SampleNames.{leaf_named}
use Rattle.sample_network.proofs.network.leaf.Goals as goal

pub numbered-requires : goal.numbered-requires
numbered-requires c = leaf_named c.args.place (omega arith)
