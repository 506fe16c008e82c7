use Rattle.relation_law.specs.Views.{view_of}
use Rattle.relation_law.proofs.Rounds.{open_pair}
use Rattle.relation_law.proofs.open_pairs_leave_no_total_relation.Goals as goal

pub returns : goal.returns
returns c = λ g claimed reach r rounds m n exact is pair a b total. open_pair (view_of g claimed) reach r rounds m n (λ a b la lb. (exact a b la lb).0) is pair a b total
