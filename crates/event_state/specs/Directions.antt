-- The directions of a network's links, numbered: what stands in a list with an entry for each.
use Rattle.std.specs.Prelude.{ℕ, ◌+◌, List, length, Option, nat_lt, option_map, slice_index_or, if◌then◌else◌}
use Rattle.std.specs.List.{position}
use Rattle.std.specs.Option.{option_map_or}
use Rattle.net_base.specs.Network.{PlainNet, joins}

-- two for each link: those from the lesser ends in the order of the links, and then those back
abbrev pub direction : PlainNet → ℕ → ℕ → Option ℕ
direction net a b = option_map (λ place. if nat_lt a b then place else length net.links + place) (position (joins a b) net.links)

-- what stands for the direction from a to b
abbrev pub at_direction : {A : Type 0} → PlainNet → List A → A → ℕ → ℕ → A
at_direction net xs nothing a b = option_map_or (λ d. slice_index_or xs d nothing) (direction net a b) nothing
