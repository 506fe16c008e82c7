use Rattle.outcome_law.proofs.Peers.{origins_alone_are_taken, origins_are_told_nothing}
use Rattle.outcome_law.proofs.announcements.origins_have_lines.Goals as goal

pub returns-clause-taken : goal.returns-clause-taken
returns-clause-taken c = origins_alone_are_taken

pub returns-clause-sent : goal.returns-clause-sent
returns-clause-sent c = origins_are_told_nothing
