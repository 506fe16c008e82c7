use Rattle.std.proofs.Common.{◌≡◌, ◌++◌, map}
use Rattle.sample_network.specs.Network.{peer_at, spine_at}
use Rattle.net_base.specs.Locations.{numbers_below}
use Rattle.sample_network.proofs.network.add_peer_links.Given as goal

abbrev pub invariant-loop-place : goal.invariant-loop-place
invariant-loop-place l = l.links.items ≡ l.initial.links.items ++ map (λ j. (spine_at l.leaves j, peer_at l.leaves j)) (numbers_below l.place)
