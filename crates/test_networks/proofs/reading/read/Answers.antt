use Rattle.policy_base.specs.Policies.{policy_of}
use Rattle.policy_parser.proofs.FittingPolicies.{read_routers}
use Rattle.test_networks.proofs.reading.read.Goals as goal

pub returns-in-Ok : goal.returns-in-Ok
returns-in-Ok c = read_routers c.in_ok-net.net c.as_bytes.result.now (policy_of c.in-Ok.policy) c.in-Ok.ensures.read
