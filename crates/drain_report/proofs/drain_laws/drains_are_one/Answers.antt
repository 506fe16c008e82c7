use Rattle.drain_report.proofs.Freeing.{drains_are_one}
use Rattle.drain_report.proofs.drain_laws.drains_are_one.Goals as goal

pub returns : goal.returns
returns c = drains_are_one
