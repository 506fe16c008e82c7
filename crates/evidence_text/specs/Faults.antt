-- The numbers of the faults, their words and their values.
use Rattle.std.specs.Prelude.{ℕ, List, [], codes}
use Rattle.text_parts.specs.Texts.{word_text}
use Rattle.text_parts.specs.Telling.{Telling}
use Rattle.evidence_text.specs.Parts.{field_word}
use Rattle.evidence_text.specs.declared.fault.EvidenceFault.{EvidenceFault}
use Rattle.evidence_text.specs.declared.fault.EvidenceFault.TheVariants.{NotJson, Shape, Number, Place, Version, NoMemory}

-- the number under which a fault is printed: of several broken rules the one with the least number is told
abbrev pub number_of : EvidenceFault → ℕ
number_of NotJson = 1
number_of (Shape f) = 2
number_of (Number f) = 3
number_of Place = 4
number_of Version = 5
number_of NoMemory = 0

-- the word of a fault
abbrev pub word_of : EvidenceFault → List ℕ
word_of NotJson = codes "not-json"
word_of (Shape f) = codes "shape"
word_of (Number f) = codes "number"
word_of Place = codes "place"
word_of Version = codes "version"
word_of NoMemory = codes "no-memory"

-- its values, each after a space
abbrev pub values_of : EvidenceFault → List ℕ
values_of NotJson = []
values_of (Shape f) = word_text (field_word f)
values_of (Number f) = word_text (field_word f)
values_of Place = []
values_of Version = []
values_of NoMemory = []

-- how each fault is told, and which one is want of memory
abbrev pub told : Telling EvidenceFault
told = record { number_of = number_of; word_of = word_of; values_of = values_of; no_memory = NoMemory }
