use Rattle.stage_maker.proofs.Turning.{cells_turn}
use Rattle.stage_maker.proofs.laws.cells_turn.Goals as goal

pub returns : goal.returns
returns c = cells_turn
