use Rattle.table_audit.proofs.Telling.{stable_tables_are_right}
use Rattle.table_audit.proofs.audit_laws.stable_tables_are_right.Goals as goal

pub returns : goal.returns
returns c = stable_tables_are_right
