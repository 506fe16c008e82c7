use Rattle.stage_maker.proofs.Lawful.{stages_are_lawful}
use Rattle.stage_maker.proofs.Says.{stages_are_made}
use Rattle.stage_maker.proofs.laws.stages_are_made.Goals as goal

pub returns-clause-lawful : goal.returns-clause-lawful
returns-clause-lawful c = stages_are_lawful

pub returns-clause-stage : goal.returns-clause-stage
returns-clause-stage c = stages_are_made
