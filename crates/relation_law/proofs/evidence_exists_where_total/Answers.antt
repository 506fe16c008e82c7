use Rattle.relation_law.specs.Numbers.{number_of}
use Rattle.relation_law.specs.Views.{view_of}
use Rattle.relation_law.proofs.Bridge.{numbers_meet_rules, rules_at_routers, rules_give_numbers}
use Rattle.relation_law.proofs.Counts.{numbers_give_total, counts_are_numbers}
use Rattle.relation_law.proofs.evidence_exists_where_total.Goals as goal

pub returns-clause-counts : goal.returns-clause-counts
returns-clause-counts c = λ net claimed external g r ok greatest total.
    let size = (view_of g claimed).size in
    rules_at_routers net claimed external g (number_of size r) (numbers_meet_rules net claimed external g (number_of size r) ok (counts_are_numbers (view_of g claimed) r greatest total))

pub returns-clause-only : goal.returns-clause-only
returns-clause-only c = λ net origin external g claimed r number formed ok routers ranked greatest rules.
    numbers_give_total (view_of g claimed) r number greatest (rules_give_numbers net origin external g formed ok claimed routers ranked number rules)
