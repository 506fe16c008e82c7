use Rattle.std.proofs.Common.{◌≡◌, map}
use Rattle.sample_network.specs.Network.{peer}
use Rattle.net_base.specs.Locations.{numbers_below}
use Rattle.sample_network.proofs.network.peers.Given as goal

abbrev pub invariant-loop-place : goal.invariant-loop-place
invariant-loop-place l = l.sites.items ≡ map peer (numbers_below l.place)
