use Rattle.scenarios.proofs.LinkMarks.{none_marked}
use Rattle.scenarios.proofs.links.LinkSet.new.Goals as goal

pub returns : goal.returns
returns c = λ net a b. none_marked net 8192 a b
