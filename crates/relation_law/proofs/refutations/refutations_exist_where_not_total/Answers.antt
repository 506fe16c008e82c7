use Rattle.relation_law.proofs.Falling.{refuted_where_open}
use Rattle.relation_law.proofs.refutations.refutations_exist_where_not_total.Goals as goal

pub returns : goal.returns
returns c = λ g claimed reach rounds ok exact partial. refuted_where_open g claimed ok reach exact rounds partial
