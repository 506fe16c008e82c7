use Rattle.std.proofs.Common.{◌≡◌, ◌++◌}
use Rattle.std.specs.List.{flat_map}
use Rattle.sample_network.specs.Network.{leaf_links}
use Rattle.net_base.specs.Locations.{numbers_below}
use Rattle.sample_network.proofs.network.add_links.Given as goal

abbrev pub invariant-loop-place : goal.invariant-loop-place
invariant-loop-place l = l.links.items ≡ l.initial.links.items ++ flat_map (leaf_links l.leaves) (numbers_below l.place)
