-- What the tokens of a text begin with.
use Rattle.std.specs.Prelude.{◌≡◌, ℕ, ◌≤◌, List, Some, Result, Ok}
use Rattle.json.specs.Token.{Token}
use Rattle.json.specs.Json.{Json, value}
use Rattle.serde_json.specs.Data.{Data}
use Rattle.serde_json.specs.Read.{of_json}
use Rattle.json_values.specs.Json.{list_at}
use Rattle.net_base.specs.Steps.{◌>>=◌, or_fault}
use Rattle.evidence_text.specs.declared.parts.Field.{Field}
use Rattle.evidence_text.specs.declared.fault.EvidenceFault.{EvidenceFault}
use Rattle.evidence_text.specs.declared.fault.EvidenceFault.TheVariants.{Shape}

-- the tokens begin with this value, where so many arrays and objects may open, and the rest is left
abbrev pub IsFirst : ℕ → List Token → Data → List Token → Type 0
IsFirst depth tokens d rest = (tree : Json) × (value depth tokens ≡ Some (tree, rest)) × (of_json tree ≡ Some d)

-- the tokens begin with a value that says this, in which at most so many arrays and objects are open at once
abbrev pub Begins : {T : Type 0} → ℕ → (Data → Result T EvidenceFault) → List Token → T → List Token → Type 0
Begins open_at_once says tokens said rest = (depth : ℕ) → open_at_once ≤ depth → (d : Data) × IsFirst depth tokens d rest × (says d ≡ Ok said)

-- what the items of an array say
abbrev pub array_of : {T : Type 0} → Field → (List Data → Result T EvidenceFault) → Data → Result T EvidenceFault
array_of f say d = do
  ds ← or_fault (Shape f) (list_at d)
  say ds
