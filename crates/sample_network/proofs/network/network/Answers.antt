use Rattle.std.proofs.Common.{rules}
use Rattle.sample_network.proofs.SampleNet.{made_net}
use Rattle.sample_network.proofs.network.network.Goals as goal

pub new-requires : goal.new-requires
new-requires c = made_net c.args.leaves c.requires.1 c.from_vec.result c.from_vec-2.result c.from_vec-3.result (search rules) (search rules) (search rules)
