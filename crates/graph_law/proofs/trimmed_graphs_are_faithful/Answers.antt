use Rattle.graph_law.proofs.Faith.{built_is_faithful, trimmed_is_entered}
use Rattle.graph_law.proofs.trimmed_graphs_are_faithful.Goals as goal

pub returns-clause-faithful : goal.returns-clause-faithful
returns-clause-faithful c = λ net s plan g t rules origins es from built trimmed.
    built_is_faithful net s plan g t (record { rules = rules; origins = origins; expressions = es; from = from }) built trimmed

pub returns-clause-entered : goal.returns-clause-entered
returns-clause-entered c = trimmed_is_entered
