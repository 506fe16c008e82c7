use Rattle.std.proofs.Common.{◌<◌, ◌^◌, List, length, subst, sym}
use Rattle.policy_base.specs.declared.case.Case.{Case}
use Rattle.policy_base.specs.Policies.{policy_of}
use Rattle.config_maker.proofs.CaseClasses.{case_lists}
use Rattle.comparison_maker.proofs.graphs.graphs_of.Goals as goal

pub case_graphs-requires-clause-few : goal.case_graphs-requires-clause-few
case_graphs-requires-clause-few c =
    subst (λ (cs : List Case). length cs < 2 ^ 32) (sym c.in_ok-list.ensures) (case_lists c.args.net.now (policy_of c.args.policy.now) c.requires.rules).count
