use Rattle.promises_report.proofs.PromisesTelling.{tops_tell_promises}
use Rattle.promises_report.proofs.promises.tops_tell_promises.Goals as goal

pub returns : goal.returns
returns c = tops_tell_promises
