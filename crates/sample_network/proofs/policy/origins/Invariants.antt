use Rattle.std.proofs.Common.{◌≡◌, map}
use Rattle.sample_network.specs.SamplePolicy.{leaf_origin}
use Rattle.net_base.specs.Locations.{numbers_below}
use Rattle.sample_network.proofs.policy.origins.Given as goal

abbrev pub invariant-loop-place : goal.invariant-loop-place
invariant-loop-place l = l.all.items ≡ map leaf_origin (numbers_below l.place)
