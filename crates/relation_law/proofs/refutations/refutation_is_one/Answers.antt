use Rattle.relation_law.proofs.OneRefutation as one
use Rattle.relation_law.proofs.refutations.refutation_is_one.Goals as goal

pub returns : goal.returns
returns c = λ g claimed reach other a b c d lines lines' ok single exact exact' x y. one.refutation_is_one g claimed ok single reach other exact exact' a b c d lines lines' x y
