use Rattle.renewal_law.proofs.Layered.{changes_come_to_rest}
use Rattle.renewal_law.proofs.changes_come_to_rest.Goals as goal

pub returns : goal.returns
returns c = changes_come_to_rest
