use Rattle.relation_law.specs.Views.{view_of}
use Rattle.relation_law.proofs.Rounds.{settled_is_greatest}
use Rattle.relation_law.proofs.rounds_end_at_the_greatest.Goals as goal

pub returns : goal.returns
returns c = λ g claimed reach rounds exact settled. settled_is_greatest (view_of g claimed) reach exact rounds settled
