use Rattle.stage_law.proofs.Mixed.{cells_may_mix}
use Rattle.stage_law.proofs.cells_may_mix.Goals as goal

pub returns : goal.returns
returns c = cells_may_mix
