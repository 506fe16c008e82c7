use Rattle.event_law.proofs.Keeping.{step-keeps, run-keeps, opening-keeps, quiet_stable}
use Rattle.event_base.specs.Steps.{opening}
use Rattle.event_law.proofs.events_keep.Goals as goal

pub returns-clause-opening : goal.returns-clause-opening
returns-clause-opening c = λ net n. opening-keeps net n

pub returns-clause-step : goal.returns-clause-step
returns-clause-step c = λ net e w n k m. step-keeps net n e w k m

pub returns-clause-run : goal.returns-clause-run
returns-clause-run c = λ net es n. run-keeps net n es (opening net) (opening-keeps net n)

pub returns-clause-quiet : goal.returns-clause-quiet
returns-clause-quiet c = λ net w n k q. quiet_stable net n w k q
