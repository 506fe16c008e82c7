use Rattle.policy_base.specs.Policies.{policy_of}
use Rattle.list_law.proofs.Exits.{passed_on}
use Rattle.comparison_maker.proofs.graphs.BothGraphs.new.Goals as goal

pub returns-in_err-before-clause-refused : goal.returns-in_err-before-clause-refused
returns-in_err-before-clause-refused c = rw (passed_on c.from_residual.result c.from_residual.ensures.1) (c.in_err-before.ensures.refused (policy_of c.args.new.now))

pub returns-in_err-after-clause-refused : goal.returns-in_err-after-clause-refused
returns-in_err-after-clause-refused c =
    rw (passed_on c.from_residual-in_err-after.result c.from_residual-in_err-after.ensures.1) (c.in_err-after.ensures.refused (policy_of c.args.old.now) c.in_ok-before.ensures.within)

pub returns-clause-graphs : goal.returns-clause-graphs
returns-clause-graphs c = record {
  rules = c.known_net.ensures;
  is_old = c.requires.old;
  is_new = c.requires.new;
  old_graphs = c.in_ok-before.ensures.graphs;
  new_graphs = c.in_ok-after.ensures.graphs;
  old_within = c.in_ok-before.ensures.within;
  new_within = c.in_ok-after.ensures.within;
}
