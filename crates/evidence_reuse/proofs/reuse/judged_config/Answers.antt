use Rattle.evidence_reuse.proofs.reuse.judged_config.Goals as goal

pub returns-in-Some-clause-stop : goal.returns-in-Some-clause-stop
returns-in-Some-clause-stop c = λ config may. (rw c.in-Some.is at c.in_ok-tag_fault.ensures).fails (may.tags c.in-Some.field-0.case c.in-Some.field-0.node)
