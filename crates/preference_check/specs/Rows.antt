-- Rows of least numbers.
use Rattle.std.specs.Prelude.{◌≡◌, ℕ, Bool, false, nat_le, List, Option, Some, None, slice_index_or}
use Rattle.preference_check.specs.declared.offers.Offer.{Offer}

-- there is a number that is no greater
abbrev pub is_upto : Option ℕ → ℕ → Bool
is_upto None n = false
is_upto (Some m) n = nat_le m n

-- a row has a number at a place that is no greater
abbrev pub has_upto : List (Option ℕ) → ℕ → ℕ → Bool
has_upto row place n = is_upto (slice_index_or row place None) n

-- a place is that of an offer, and a row has there what it costs
abbrev pub IsLevel : List (Option ℕ) → ℕ → Offer → Type 0
IsLevel row place o = (place ≡ o.at) × (slice_index_or row place None ≡ Some o.cost)
