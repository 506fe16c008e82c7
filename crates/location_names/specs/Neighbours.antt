-- The sets of the locations to which locations are linked.
use Rattle.std.specs.Prelude.{ℕ, Bool, false, List, slice_get}
use Rattle.std.specs.Option.{option_map_or}
use Rattle.net_base.specs.declared.loc.LocSet.{LocSet}
use Rattle.net_base.specs.Sets.{holds}

-- the set of a location has another
abbrev pub is_held : List LocSet → ℕ → ℕ → Bool
is_held sets x l = option_map_or (λ (s : LocSet). holds s l) (slice_get sets x) false
