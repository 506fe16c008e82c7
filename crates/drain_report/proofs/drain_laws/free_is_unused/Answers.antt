use Rattle.drain_report.proofs.Freeing.{free_is_unused}
use Rattle.drain_report.proofs.drain_laws.free_is_unused.Goals as goal

pub returns : goal.returns
returns c = free_is_unused
