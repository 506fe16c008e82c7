use Rattle.renewal_law.proofs.Cells.{prefixes_stay_or_go_over}
use Rattle.renewal_law.proofs.Premises.{phases_are_between}
use Rattle.renewal_law.proofs.prefixes_stay_or_go_over.Goals as goal

pub returns-clause-prefixes : goal.returns-clause-prefixes
returns-clause-prefixes c = prefixes_stay_or_go_over

pub returns-clause-between : goal.returns-clause-between
returns-clause-between c = phases_are_between
