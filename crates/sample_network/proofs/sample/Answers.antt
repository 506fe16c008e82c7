use Rattle.std.proofs.Common.{rules, ◌≡◌, ◌≤◌}
use Rattle.policy_base.specs.Policies.{policy_of}
use Rattle.policy_text.specs.PolicyText.{policy_text}
use Rattle.sample_network.specs.Network.{sample_net}
use Rattle.sample_network.specs.SamplePolicy.{sample_policy}
use Rattle.sample_network.proofs.SamplePolicies.{is_read}
use Rattle.sample_network.proofs.SampleTexts.{policy_short}
use Rattle.sample_network.proofs.sample.Goals as goal

pub returns-clause-policy : goal.returns-clause-policy
returns-clause-policy c =
    is_read c.args.leaves (search rules, search rules) c.in_ok-net.net (policy_of c.in_ok-policy.policy) c.in_ok-text.text.items c.in_ok-net.ensures c.in_ok-policy.ensures c.in_ok-text.ensures.read

pub returns-clause-short : goal.returns-clause-short
returns-clause-short c =
    let few : c.args.leaves ≤ 96 = search rules in
    let text : c.in_ok-text.text.items ≡ policy_text (sample_net c.args.leaves) (sample_policy c.args.leaves) = search rules in
    rw text (policy_short c.args.leaves few)
