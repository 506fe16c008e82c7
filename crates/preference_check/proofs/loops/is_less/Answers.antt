use Rattle.preference_check.proofs.RowLemmas.{not_less}
use Rattle.preference_check.proofs.loops.is_less.Goals as goal

pub returns-in-Some : goal.returns-in-Some
returns-in-Some c = not_less _ _ _ c.in-Some.is
