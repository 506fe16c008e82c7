-- The numbers of the faults, their words and their values.
use Rattle.std.specs.Prelude.{ℕ, List, [], ◌++◌, codes}
use Rattle.std.specs.Fmt.{decimal}
use Rattle.text_parts.specs.Telling.{Telling}
use Rattle.config_reader.specs.declared.fault.ConfigFault.{ConfigFault}
use Rattle.config_reader.specs.declared.fault.ConfigFault.TheVariants.{Version, Line, Order, Twice, Number, Unfinished, NoMemory}

-- the number under which a fault is printed
abbrev pub number_of : ConfigFault → ℕ
number_of Version = 1
number_of (Line n) = 2
number_of (Order n) = 3
number_of (Twice n) = 4
number_of (Number n) = 5
number_of Unfinished = 6
number_of NoMemory = 0

-- the word of a fault
abbrev pub word_of : ConfigFault → List ℕ
word_of Version = codes "version"
word_of (Line n) = codes "line"
word_of (Order n) = codes "order"
word_of (Twice n) = codes "twice"
word_of (Number n) = codes "number"
word_of Unfinished = codes "unfinished"
word_of NoMemory = codes "no-memory"

abbrev pub line_number_text : ℕ → List ℕ
line_number_text n = codes " line " ++ decimal n

-- the line where it has one
abbrev pub values_of : ConfigFault → List ℕ
values_of Version = []
values_of (Line n) = line_number_text n
values_of (Order n) = line_number_text n
values_of (Twice n) = line_number_text n
values_of (Number n) = line_number_text n
values_of Unfinished = []
values_of NoMemory = []

-- how each fault is told, and which one is want of memory
abbrev pub told : Telling ConfigFault
told = record { number_of = number_of; word_of = word_of; values_of = values_of; no_memory = NoMemory }
