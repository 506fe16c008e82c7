use Rattle.own_space.proofs.Telling.{parts_tell_something}
use Rattle.own_space.proofs.laws.parts_tell_something.Goals as goal

pub returns : goal.returns
returns c = parts_tell_something
