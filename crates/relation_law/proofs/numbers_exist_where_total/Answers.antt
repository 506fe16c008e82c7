use Rattle.relation_law.specs.Views.{view_of}
use Rattle.relation_law.proofs.Counts.{numbers_give_total, counts_are_numbers}
use Rattle.relation_law.proofs.numbers_exist_where_total.Goals as goal

pub returns-clause-only : goal.returns-clause-only
returns-clause-only c = λ g claimed r number. numbers_give_total (view_of g claimed) r number

pub returns-clause-counts : goal.returns-clause-counts
returns-clause-counts c = λ g claimed r greatest total. counts_are_numbers (view_of g claimed) r greatest total
