use Rattle.preference_check.proofs.Lowest.{one_number}
use Rattle.preference_check.proofs.loops.has_one_number.Goals as goal

pub returns-else-is_empty : goal.returns-else-is_empty
returns-else-is_empty c = one_number c.args.run.now (record { number = 0; node = 0 }) c.requires
