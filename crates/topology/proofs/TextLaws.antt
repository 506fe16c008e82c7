-- What a text's answer says of it.
use Rattle.std.proofs.Common.{◌≡◌, ℕ, List, Ok}
use Rattle.json_values.proofs.TextLaws as texts
use Rattle.net_base.specs.Network.{PlainNet, IsNet}
use Rattle.topology.specs.declared.fault.TopoFault.TheVariants.{NotJson, Shape}
use Rattle.topology.specs.Faults.{number_of}
use Rattle.topology.specs.Laws.{rules}
use Rattle.topology.specs.Rules.{judged}
use Rattle.topology.specs.Shape.{shape_of}
use Rattle.topology.specs.Topology.{spelled}
use Rattle.topology.proofs.FirstBroken.{judged_outcome, judged_net}
use Rattle.topology.proofs.Identifiers.{shape_ids}
use Rattle.topology.proofs.ShapeFaults.{shape_only}

pub answers : texts.Answers NotJson Shape number_of shape_of rules spelled
unfolding spelled
answers = texts.answers NotJson Shape number_of shape_of rules judged judged_outcome shape_only (λ _ same. cc) (λ _. tt) (λ _ _. tt)

-- what is read is a network
pub net_read : (bytes : List ℕ) (net : PlainNet) → spelled bytes ≡ Ok net → IsNet net
unfolding spelled
net_read bytes net h =
    let r = texts.says_read NotJson shape_of judged bytes net h in
    let ids = shape_ids r.1.0 r.0 r.1.3 in
    judged_net r.0 net ids.0 ids.1 r.2
