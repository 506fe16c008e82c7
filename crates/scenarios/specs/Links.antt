-- Sets of links.
use Rattle.std.specs.Prelude.{ℕ, Bool, false, slice_index_or}
use Rattle.std.specs.List.{position}
use Rattle.std.specs.Option.{option_map_or}
use Rattle.net_base.specs.Network.{PlainNet, joins}
use Rattle.scenarios.specs.declared.links.LinkSet.{LinkSet}

-- the set has the link of two locations
abbrev pub has_link : PlainNet → LinkSet → ℕ → ℕ → Bool
has_link net set a b = option_map_or (λ place. slice_index_or set.marks place false) (position (joins a b) net.links) false
