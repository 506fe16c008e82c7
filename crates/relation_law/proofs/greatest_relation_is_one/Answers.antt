use Rattle.relation_law.specs.Views.{view_of}
use Rattle.relation_law.proofs.Counts.{one_greatest}
use Rattle.relation_law.proofs.greatest_relation_is_one.Goals as goal

pub returns : goal.returns
returns c = λ g claimed r s. one_greatest (view_of g claimed) r s
