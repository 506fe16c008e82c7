use Rattle.relation_law.specs.Views.{view_of}
use Rattle.relation_law.proofs.Bridge.{rules_give_numbers}
use Rattle.relation_law.proofs.Counts.{numbers_give_total}
use Rattle.state_simulation.specs.Held.{has}
use Rattle.state_simulation.proofs.Holding.{each_where_total}
use Rattle.state_simulation.proofs.laws.evidence_needs_a_total_relation.Goals as goal

pub returns : goal.returns
returns c = λ net origin external g r number formed ok routers ranked is rules.
    each_where_total g r is (numbers_give_total (view_of g r.claimed) (has r) number is.greatest (rules_give_numbers net origin external g formed ok r.claimed routers ranked number rules))
