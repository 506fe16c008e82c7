use Rattle.std.proofs.Common.{rules}
use Rattle.sample_network.proofs.SamplePolicies.{made_policy}
use Rattle.sample_network.proofs.policy.policy.Goals as goal

pub new-requires : goal.new-requires
new-requires c = made_policy c.args.leaves c.requires.1 c.from_vec.result c.from_vec-2.result (search rules) (search rules)
