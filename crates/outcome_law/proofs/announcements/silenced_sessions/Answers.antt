use Rattle.outcome_law.proofs.Silenced.{silenced_sessions}
use Rattle.outcome_law.proofs.announcements.silenced_sessions.Goals as goal

pub returns : goal.returns
returns c = silenced_sessions
