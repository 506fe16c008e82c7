use Rattle.list_law.proofs.Exits.{passed_on}
use Rattle.case_core.proofs.automata.new_automata.Goals as goal

pub returns-in_err-ranked-clause-refused : goal.returns-in_err-ranked-clause-refused
returns-in_err-ranked-clause-refused c = λ room case.
    rw (passed_on c.from_residual.result c.from_residual.ensures.1) (c.in_err-ranked.ensures.refused room case)
