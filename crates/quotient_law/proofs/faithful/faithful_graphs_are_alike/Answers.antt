use Rattle.quotient_law.proofs.Tied.{are_alike}
use Rattle.quotient_law.proofs.faithful.faithful_graphs_are_alike.Goals as goal

pub returns : goal.returns
returns c = λ net s origin external g q claimed gg qq fg fq. are_alike net s origin external g q gg qq fg fq claimed
