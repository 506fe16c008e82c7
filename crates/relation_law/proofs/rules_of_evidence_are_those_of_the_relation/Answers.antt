use Rattle.relation_law.proofs.Bridge.{numbers_meet_rules, rules_give_numbers}
use Rattle.relation_law.proofs.rules_of_evidence_are_those_of_the_relation.Goals as goal

pub returns-clause-numbers : goal.returns-clause-numbers
returns-clause-numbers c = numbers_meet_rules

pub returns-clause-only : goal.returns-clause-only
returns-clause-only c = λ net origin external g claimed number formed ok routers ranked rules. rules_give_numbers net origin external g formed ok claimed routers ranked number rules
