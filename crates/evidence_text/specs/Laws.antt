-- The rules of evidence, each for itself, by the number of its fault.
use Rattle.std.specs.Prelude.{◌≡◌, true, map, List, [], ◌∷◌, Some, Ok}
use Rattle.std.specs.List.{list_all}
use Rattle.evidence_base.specs.Made.{PlainCaseEvidence}
use Rattle.evidence_text.specs.declared.raw.RawEvidence.{RawEvidence}
use Rattle.evidence_text.specs.declared.raw.ReadText.{ReadText}
use Rattle.evidence_text.specs.Spelled.{numbered, is_placed, evidence_of}

-- the numbers are in their ranges
abbrev pub HasNumbers : RawEvidence → Type 0
HasNumbers raw = (text : ReadText) × (numbered raw ≡ Ok text)

-- where they are, the starts and steps of each case name nodes of its list
abbrev pub HasPlaces : RawEvidence → Type 0
HasPlaces raw = (text : ReadText) → numbered raw ≡ Ok text → list_all is_placed text.cases ≡ true

abbrev pub IsFirstVersion : RawEvidence → Type 0
IsFirstVersion raw = raw.version ≡ Some 1

-- the rules in order, of which the first has the number 3
abbrev pub rules : RawEvidence → List {1} (Type 0)
rules raw = HasNumbers raw ∷ HasPlaces raw ∷ IsFirstVersion raw ∷ []

-- this is the evidence of a text whose numbers are in their ranges
abbrev pub IsEvidenceOf : RawEvidence → List PlainCaseEvidence → Type 0
IsEvidenceOf raw cs = (text : ReadText) × (numbered raw ≡ Ok text) × (map evidence_of text.cases ≡ cs)
