use Rattle.pair_rows.proofs.FirstWalks.{rows_are}
use Rattle.pair_rows.proofs.laws.met_rows_are_those_of_walks.Goals as goal

pub returns : goal.returns
returns c = λ net old new p g h both pairs place rows are firsts. rows_are net old new p g h both pairs are place rows firsts
