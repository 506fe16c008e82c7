use Rattle.table_audit.proofs.Telling.{verdicts_are_one}
use Rattle.table_audit.proofs.audit_laws.verdicts_are_one.Goals as goal

pub returns : goal.returns
returns c = verdicts_are_one
