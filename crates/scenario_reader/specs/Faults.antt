-- The numbers of the faults, their words and their values.
use Rattle.std.specs.Prelude.{ℕ, List, [], codes}
use Rattle.text_parts.specs.Texts.{word_text, place_text}
use Rattle.text_parts.specs.Telling.{Telling}
use Rattle.scenario_reader.specs.Parts.{field_word}
use Rattle.scenario_reader.specs.declared.fault.ScenarioFault.{ScenarioFault}
use Rattle.scenario_reader.specs.declared.fault.ScenarioFault.TheVariants.{NotJson, Shape, Unknown, NoLink, NotPeerLink, BadPrefix, NoMemory}

-- the number under which a fault is printed: of several broken rules the one with the least number is told
abbrev pub number_of : ScenarioFault → ℕ
number_of NotJson = 1
number_of (Shape f) = 2
number_of (Unknown f) = 3
number_of (NoLink p) = 4
number_of (NotPeerLink p) = 5
number_of BadPrefix = 6
number_of NoMemory = 0

-- the word of a fault
abbrev pub word_of : ScenarioFault → List ℕ
word_of NotJson = codes "not-json"
word_of (Shape f) = codes "shape"
word_of (Unknown f) = codes "unknown"
word_of (NoLink p) = codes "no-link"
word_of (NotPeerLink p) = codes "not-peer-link"
word_of BadPrefix = codes "bad-prefix"
word_of NoMemory = codes "no-memory"

-- its values, each after a space
abbrev pub values_of : ScenarioFault → List ℕ
values_of NotJson = []
values_of (Shape f) = word_text (field_word f)
values_of (Unknown f) = word_text (field_word f)
values_of (NoLink p) = place_text p
values_of (NotPeerLink p) = place_text p
values_of BadPrefix = []
values_of NoMemory = []

-- how each fault is told, and which one is want of memory
abbrev pub told : Telling ScenarioFault
told = record { number_of = number_of; word_of = word_of; values_of = values_of; no_memory = NoMemory }
