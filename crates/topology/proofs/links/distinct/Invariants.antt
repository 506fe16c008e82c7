use Rattle.std.proofs.Common.{◌≡◌, ◌+◌, [], take, drop}
use Rattle.topology.specs.declared.fault.TopoFault.TheVariants.{LinkTwice}
use Rattle.net_base.specs.Network.{same_ends}
use Rattle.topology.specs.Rules.{all_unlike, ascending}
use Rattle.topology.proofs.links.distinct.Given as goal

abbrev pub invariant-loop-link : goal.invariant-loop-link
invariant-loop-link l =
    (l.place ≡ l.link-index + 1)
    × (l.all.keys ≡ ascending (take l.link-index l.links))
    × (all_unlike same_ends (λ place _ _. LinkTwice place) (take l.link-index l.links) (drop l.link-index l.links) ≡ all_unlike same_ends (λ place _ _. LinkTwice place) [] l.links)
