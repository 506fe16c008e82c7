use Rattle.net_base.specs.NetSets.{locations}
use Rattle.net_base.proofs.NetSetLaws.{all_held}
use Rattle.path_law.proofs.RunLaws.{first_with-reverse}
use Rattle.path_law.proofs.derivatives_decide.Goals as goal

pub returns : goal.returns
returns c = λ net es xs rules h. first_with-reverse (locations net) es xs (all_held net rules xs h)
