-- The rules of tables, each for itself, by the number of its fault.
use Rattle.std.specs.Prelude.{◌≡◌, ℕ, ◌+◌, IsTrue, List, [], ◌∷◌, length, slice_get, Option, Some, None, ⊤}
use Rattle.std.specs.List.{position, AllByRecursion}
use Rattle.std.specs.Str.{bytes_eq}
use Rattle.json_values.specs.TextRules.{is_known}
use Rattle.net_base.specs.Network.{PlainNet}
use Rattle.location_names.specs.Names.{names_of}
use Rattle.table_reader.specs.Shape.{Said}

-- the network has locations of the names on the path of an entry
abbrev pub HasNames : PlainNet → Option Said → Type 0
HasNames net None = ⊤
HasNames net (Some said) = AllByRecursion (λ name. IsTrue (is_known (names_of net) name)) said.path

-- the path of an entry begins with the name of this location
abbrev pub BeginsAt : PlainNet → ℕ → Option Said → Type 0
BeginsAt net r None = ⊤
BeginsAt net r (Some said) = (name : List ℕ) × (slice_get said.path 0 ≡ Some name) × (position (bytes_eq name) (names_of net) ≡ Some r)

-- each entry, from that of the router r on, begins with its router
abbrev pub BeginFrom : PlainNet → ℕ → List (Option Said) → Type 0
BeginFrom net r [] = ⊤
BeginFrom net r (entry ∷ more) = BeginsAt net r entry × BeginFrom net (r + 1) more

-- ---- what each rule says

abbrev pub HasEntries : PlainNet → List (Option Said) → Type 0
HasEntries net said = length said ≡ length net.routers

abbrev pub NamesAreKnown : PlainNet → List (Option Said) → Type 0
NamesAreKnown net said = AllByRecursion (HasNames net) said

abbrev pub BeginAtHolders : PlainNet → List (Option Said) → Type 0
BeginAtHolders net said = BeginFrom net 0 said

-- the rules in order, of which the first has the number 3
abbrev pub rules : PlainNet → List (Option Said) → List {1} (Type 0)
rules net said = HasEntries net said ∷ NamesAreKnown net said ∷ BeginAtHolders net said ∷ []
