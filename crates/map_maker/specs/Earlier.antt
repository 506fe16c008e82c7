-- Entries of patterns, in blocks.
use Rattle.std.specs.Prelude.{◌≡◌, ℕ, ◌+◌, ◌==◌, Bool, List, [], ◌∷◌, ◌++◌, count_by}
use Rattle.std.specs.List.Sorted.{IsNonDecreasingBy}
use Rattle.net_base.specs.Prefixes.{PlainPattern}
use Rattle.map_maker.specs.Keys.{key}
use Rattle.map_maker.specs.declared.earlier.Entry.{Entry}

-- the greatest number of 64 bits
abbrev pub top : ℕ
top = 18446744073709551615

-- in order of keys
abbrev pub IsInOrder : List Entry → Type 0
IsInOrder entries = IsNonDecreasingBy (λ (e : Entry). e.key) entries

abbrev pub is_at : ℕ → Entry → Bool
is_at j e = e.place == j

-- the same entries, each as often, in any order
abbrev pub HaveEntries : List Entry → List Entry → Type 0
HaveEntries xs ys = (p : Entry → Bool) → count_by p xs ≡ count_by p ys

-- those of all blocks
abbrev pub entries_in : List (List Entry) → List Entry
entries_in [] = []
entries_in (b ∷ bs) = b ++ entries_in bs

-- those of patterns, of which the first has this place
abbrev pub entries_from : ℕ → List PlainPattern → List Entry
entries_from k [] = []
entries_from k (q ∷ qs) = record { key = key q; place = k } ∷ entries_from (k + 1) qs
