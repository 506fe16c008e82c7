use Rattle.settle_report.proofs.OneSettlement.{one_settlement}
use Rattle.settle_report.proofs.laws.settlements_are_one.Goals as goal

pub returns : goal.returns
returns c = one_settlement
