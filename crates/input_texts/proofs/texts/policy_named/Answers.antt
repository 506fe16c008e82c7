use Rattle.input_texts.proofs.ReadPolicies.{read_fits, read_routers}
use Rattle.input_texts.proofs.texts.policy_named.Goals as goal

pub returns-clause-routers : goal.returns-clause-routers
returns-clause-routers c = read_routers c.args.net.now c.args.policy.now c.read_policy.result c.read_policy.ensures.read c.or_told.result c.or_told.ensures.same

pub returns-clause-fits : goal.returns-clause-fits
returns-clause-fits c = read_fits c.args.net.now c.args.policy.now c.read_policy.result c.read_policy.ensures.read c.or_told.result c.or_told.ensures.same
