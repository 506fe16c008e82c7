use Rattle.relation_law.proofs.Refuted.{neither}
use Rattle.relation_law.proofs.refutations.refuted_pairs_are_not_left.Goals as goal

pub returns : goal.returns
returns c = λ g claimed first second lines s ok single r closed. neither g claimed first second lines s ok single r closed
