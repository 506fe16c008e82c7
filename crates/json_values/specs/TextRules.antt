-- What a JSON text says, and which rules it keeps, each by the number of its fault.
use Rattle.std.specs.Prelude.{◌≡◌, ℕ, ◌<◌, Bool, List, ◌∷◌, Some, Result, Ok, ⊤, IsUtf8}
use lib.ListN.{get_or}
use Rattle.std.specs.List.{list_any}
use Rattle.std.specs.Str.{bytes_eq}
use Rattle.serde_json.specs.Data.{Data}
use Rattle.serde_json.specs.Read.{read}

-- the bytes are a JSON value that has the shape of this
abbrev pub Says : {T F : Type 0} → (Data → Result T F) → List ℕ → T → Type 0
Says shape_of bytes said = (d : Data) × IsUtf8 bytes × (read bytes ≡ Some d) × (shape_of d ≡ Ok said)

-- of rules in order, of which the first has the number 3, that of this number is kept; of other numbers there is none
abbrev pub Keeps : List {1} (Type 0) → ℕ → Type 0
Keeps rules k = get_or (⊤ ∷ ⊤ ∷ ⊤ ∷ rules) k ⊤

-- the rules before that of this number are kept
abbrev pub KeepsBelow : List {1} (Type 0) → ℕ → Type 0
KeepsBelow rules n = (k : ℕ) → k < n → Keeps rules k

-- one of the names is this one
abbrev pub is_known : List (List ℕ) → List ℕ → Bool
is_known names name = list_any (bytes_eq name) names
