use Rattle.evidence_check.proofs.verdict.check_text.Goals as goal

pub returns-in-Some-clause-verdict : goal.returns-in-Some-clause-verdict
returns-in-Some-clause-verdict c = λ config _. (rw c.in-Some.is at c.in_ok-verdict.ensures.verdict) config

pub returns-in-Some-clause-spells : goal.returns-in-Some-clause-spells
returns-in-Some-clause-spells c = λ held. absurd ((rw c.in-Some.is at c.in_ok-verdict.ensures.fails) held)
