use Rattle.evidence_text.proofs.TextLaws.{answers}
use Rattle.evidence_text.proofs.laws.texts_of_another_shape.Goals as goal

pub returns-clause-only : goal.returns-clause-only
returns-clause-only c = answers.shape_only

pub returns-clause-all : goal.returns-clause-all
returns-clause-all c = answers.shape_all
