use Rattle.graph_base.proofs.WellFormed.{one_step}
use Rattle.relation_law.proofs.Bridge.{rules_give_numbers}
use Rattle.relation_law.proofs.Refuted.{no_numbers}
use Rattle.relation_law.proofs.refutations.refuted_graphs_have_no_numbers.Goals as goal

pub returns : goal.returns
returns c = λ net origin external g claimed first second lines number formed ok routers ranked r rules.
    no_numbers g claimed first second lines number ok (one_step net origin external g formed) r (rules_give_numbers net origin external g formed ok claimed routers ranked number rules)
