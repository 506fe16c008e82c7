use Rattle.grammar_law.proofs.TextLaws.{fault-first_wrong, first_wrong-fault}
use Rattle.grammar_law.proofs.syntax_names_the_first_wrong_token.Goals as goal

pub returns-clause-only : goal.returns-clause-only
returns-clause-only c = fault-first_wrong

pub returns-clause-all : goal.returns-clause-all
returns-clause-all c = first_wrong-fault
