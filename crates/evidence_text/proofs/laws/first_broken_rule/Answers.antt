use Rattle.evidence_text.proofs.TextLaws.{answers}
use Rattle.evidence_text.proofs.laws.first_broken_rule.Goals as goal

pub returns-clause-only : goal.returns-clause-only
returns-clause-only c = answers.broken_only

pub returns-clause-all : goal.returns-clause-all
returns-clause-all c = answers.broken_all
