use Rattle.std.proofs.Common.{◌≡◌, ◌++◌, map}
use Rattle.sample_network.specs.Network.{spine}
use Rattle.net_base.specs.Locations.{numbers_below}
use Rattle.sample_network.proofs.network.add_spines.Given as goal

abbrev pub invariant-loop-place : goal.invariant-loop-place
invariant-loop-place l = l.sites.items ≡ l.initial.sites.items ++ map (spine l.leaves) (numbers_below l.place)
