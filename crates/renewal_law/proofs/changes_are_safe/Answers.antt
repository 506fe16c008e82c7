use Rattle.renewal_law.proofs.Safe.{changes_are_safe, changes_lead_back}
use Rattle.renewal_law.proofs.changes_are_safe.Goals as goal

pub returns-clause-there : goal.returns-clause-there
returns-clause-there c = changes_are_safe

pub returns-clause-back : goal.returns-clause-back
returns-clause-back c = changes_lead_back
