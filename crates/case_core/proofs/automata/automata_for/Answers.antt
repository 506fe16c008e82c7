use Rattle.case_core.proofs.automata.automata_for.Goals as goal

pub returns-in-Some-clause-automata : goal.returns-in-Some-clause-automata
returns-in-Some-clause-automata c = (rw c.in-Some.ensures.kept at c.requires.kept) c.in-Some.ensures.statement
