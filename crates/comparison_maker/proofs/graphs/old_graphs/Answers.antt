use Rattle.policy_base.specs.Policies.{policy_of}
use Rattle.comparison_maker.proofs.graphs.old_graphs.Goals as goal

pub returns-in-Err-clause-refused : goal.returns-in-Err-clause-refused
returns-in-Err-clause-refused c = λ new. c.refusal_of_old.ensures c.args.net.now (policy_of c.args.old.now) new c.in-Err.ensures.refused
