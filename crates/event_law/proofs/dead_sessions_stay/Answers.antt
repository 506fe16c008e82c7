use Rattle.event_law.proofs.Dead.{dead_sessions_stay, marks_are_all_that_changes}
use Rattle.event_law.proofs.dead_sessions_stay.Goals as goal

pub returns-clause-sessions : goal.returns-clause-sessions
returns-clause-sessions c = λ net n. dead_sessions_stay net n

pub returns-clause-marks : goal.returns-clause-marks
returns-clause-marks c = λ net n own. marks_are_all_that_changes net n own
