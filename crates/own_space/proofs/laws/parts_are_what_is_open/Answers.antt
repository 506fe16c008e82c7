use Rattle.own_space.proofs.Telling.{parts_are_what_is_open}
use Rattle.own_space.proofs.laws.parts_are_what_is_open.Goals as goal

pub returns : goal.returns
returns c = parts_are_what_is_open
