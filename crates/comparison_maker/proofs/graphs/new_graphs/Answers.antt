use Rattle.policy_base.specs.Policies.{policy_of}
use Rattle.comparison_maker.proofs.graphs.new_graphs.Goals as goal

pub returns-in-Err-clause-refused : goal.returns-in-Err-clause-refused
returns-in-Err-clause-refused c = λ old within. c.refusal_of_new.ensures c.args.net.now old (policy_of c.args.new.now) within c.in-Err.ensures.refused
