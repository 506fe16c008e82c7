-- The law of the grammar of JSON.
use Rattle.std.specs.Prelude.{◌≡◌, ℕ, List, Some}
use Rattle.json.specs.Json.{Json}
use Rattle.serde_json.specs.Data.{Data}
use Rattle.serde_json.specs.Read.{read, of_json}
use Rattle.json_law.specs.Grammar.{IsPadded}
use Rattle.json_law.specs.Written.{IsWritten}

-- A text that is read is a value between blanks, which is written as the tree that is read has it.
abbrev pub ReadTextsAreWritten : Type 0
ReadTextsAreWritten =
    (bytes : List ℕ) (value : Data) → read bytes ≡ Some value
    → (tree : Json) × (text : List ℕ) × IsPadded text bytes × IsWritten tree text × (of_json tree ≡ Some value)
