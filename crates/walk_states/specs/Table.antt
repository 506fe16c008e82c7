-- How the number of a standing is looked up by its location and its state.
use Rattle.std.specs.Prelude.{◌≡◌, ℕ, ◌+◌, ◌<◌, ◌≤◌, ◌==◌, ◌&&◌, ◌++◌, ◌∷◌, [], Bool, List, Option, Some, None, length, slice_get, unwrap_or, if◌then◌else◌}
use Rattle.std.specs.List.{list_any}
use Rattle.std.specs.Option.{option_and_then}

-- a location and a state
abbrev pub Key : Type 0
Key = ℕ × ℕ

abbrev pub same_key : Key → Key → Bool
same_key a b = a.0 == b.0 && a.1 == b.1

-- the key behind the others, where it isn't among them
abbrev pub with_key : List Key → Key → List Key
with_key ks k = if list_any (same_key k) ks then ks else ks ++ k ∷ []

-- what stands at a place, if anything does
abbrev pub entry : List (Option ℕ) → ℕ → Option ℕ
entry list place = unwrap_or (slice_get list place) None

-- the number of a key: what stands in the row of its state, at the place of its location
abbrev pub number_in : List (Option ℕ) → List (Option ℕ) → Key → Option ℕ
number_in rows numbers k = option_and_then (λ row. entry numbers (row + k.0)) (entry rows k.1)

-- each row has so many places
abbrev pub AreInside : ℕ → List (Option ℕ) → List (Option ℕ) → Type 0
AreInside width rows numbers = (s row : ℕ) → entry rows s ≡ Some row → row + width ≤ length numbers

-- no place is in the rows of two states
abbrev pub AreRowsApart : ℕ → List (Option ℕ) → Type 0
AreRowsApart width rows = (s t row other at on : ℕ) → entry rows s ≡ Some row → entry rows t ≡ Some other → at < width → on < width
    → row + at ≡ other + on → s ≡ t

-- each number that is found is that of the key
abbrev pub AreRight : ℕ → List (Option ℕ) → List (Option ℕ) → List Key → Type 0
AreRight width rows numbers keys = (k : Key) (n : ℕ) → k.0 < width → number_in rows numbers k ≡ Some n → slice_get keys n ≡ Some k

-- the number of each key is found
abbrev pub AreFound : List (Option ℕ) → List (Option ℕ) → List Key → Type 0
AreFound rows numbers keys = (k : Key) (n : ℕ) → slice_get keys n ≡ Some k → number_in rows numbers k ≡ Some n
