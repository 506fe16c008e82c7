use Rattle.evidence_text.proofs.TextLaws.{number-only, number-all}
use Rattle.evidence_text.proofs.laws.texts_with_numbers_out_of_range.Goals as goal

pub returns-clause-only : goal.returns-clause-only
returns-clause-only c = number-only

pub returns-clause-all : goal.returns-clause-all
returns-clause-all c = number-all
