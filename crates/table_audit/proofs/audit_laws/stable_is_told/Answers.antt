use Rattle.table_audit.proofs.Telling.{stable_is_told}
use Rattle.table_audit.proofs.audit_laws.stable_is_told.Goals as goal

pub returns : goal.returns
returns c = stable_is_told
