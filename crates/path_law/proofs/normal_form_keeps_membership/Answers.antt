use Rattle.net_base.specs.NetSets.{locations}
use Rattle.net_base.proofs.NetSetLaws.{all_held}
use Rattle.path_law.proofs.Normals.{member-normal}
use Rattle.path_law.proofs.normal_form_keeps_membership.Goals as goal

pub returns : goal.returns
returns c = λ net e xs rules h. member-normal e (locations net) xs (all_held net rules xs h)
