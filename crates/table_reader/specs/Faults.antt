-- The numbers of the faults, their words and their values.
use Rattle.std.specs.Prelude.{ℕ, List, [], codes}
use Rattle.std.specs.Fmt.{decimal}
use Rattle.text_parts.specs.Texts.{word_text, place_text}
use Rattle.text_parts.specs.Telling.{Telling}
use Rattle.table_reader.specs.declared.fault.TablesFault.{TablesFault}
use Rattle.table_reader.specs.declared.fault.TablesFault.TheVariants.{NotJson, Shape, Count, Unknown, Holder, NoMemory}

-- the number under which a fault is printed: of several broken rules the one with the least number is told
abbrev pub number_of : TablesFault → ℕ
number_of NotJson = 1
number_of (Shape p) = 2
number_of (Count n) = 3
number_of (Unknown p) = 4
number_of (Holder p) = 5
number_of NoMemory = 0

-- the word of a fault
abbrev pub word_of : TablesFault → List ℕ
word_of NotJson = codes "not-json"
word_of (Shape p) = codes "shape"
word_of (Count n) = codes "count"
word_of (Unknown p) = codes "unknown"
word_of (Holder p) = codes "holder"
word_of NoMemory = codes "no-memory"

-- its values, each after a space
abbrev pub values_of : TablesFault → List ℕ
values_of NotJson = []
values_of (Shape p) = place_text p
values_of (Count n) = word_text (decimal n)
values_of (Unknown p) = place_text p
values_of (Holder p) = place_text p
values_of NoMemory = []

-- how each fault is told, and which one is want of memory
abbrev pub told : Telling TablesFault
told = record { number_of = number_of; word_of = word_of; values_of = values_of; no_memory = NoMemory }
