use Rattle.std.proofs.Common.{◌≡◌, filter, take}
use Rattle.own_space.specs.Spaces.{is_outer}
use Rattle.own_space.proofs.spaces.outer_of.Given as goal

abbrev pub invariant-loop-origin : goal.invariant-loop-origin
invariant-loop-origin l = l.outer.items ≡ filter (is_outer l.origins) (take l.origin-index l.origins)
