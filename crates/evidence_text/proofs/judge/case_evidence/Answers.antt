use Rattle.evidence_text.proofs.judge.case_evidence.Goals as goal

pub with_columns-requires-clause-few : goal.with_columns-requires-clause-few
with_columns-requires-clause-few c = rw (← c.as_slice.ensures) c.in_ok-columns.ensures.few

pub with_columns-requires-clause-nodes : goal.with_columns-requires-clause-nodes
with_columns-requires-clause-nodes c = rw (← c.as_slice.ensures) c.in_ok-columns.ensures.nodes

pub with_columns-requires-clause-numbers : goal.with_columns-requires-clause-numbers
with_columns-requires-clause-numbers c = rw (← c.as_slice.ensures) c.in_ok-columns.ensures.numbers

pub with_columns-requires-clause-tags : goal.with_columns-requires-clause-tags
with_columns-requires-clause-tags c = rw (← c.as_slice.ensures) c.in_ok-columns.ensures.tags
