use Rattle.evidence_text.proofs.TextLaws.{says_read, read_where_kept, rules_read}
use Rattle.evidence_text.proofs.laws.texts_that_are_read.Goals as goal

pub returns-clause-only : goal.returns-clause-only
returns-clause-only c = says_read

pub returns-clause-all : goal.returns-clause-all
returns-clause-all c = read_where_kept

pub returns-clause-rules : goal.returns-clause-rules
returns-clause-rules c = rules_read
