use Rattle.std.proofs.Common.{◌≡◌, ◌++◌, map}
use Rattle.sample_network.specs.Network.{spine_at}
use Rattle.net_base.specs.Locations.{numbers_below}
use Rattle.sample_network.proofs.network.add_leaf_links.Given as goal

abbrev pub invariant-loop-spine : goal.invariant-loop-spine
invariant-loop-spine l = l.links.items ≡ l.initial.links.items ++ map (λ j. (l.place, spine_at l.leaves j)) (numbers_below l.spine)
