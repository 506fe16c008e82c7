-- The numbers of the faults, their words and their values.
use Rattle.std.specs.Prelude.{ℕ, List, [], ◌++◌, codes}
use Rattle.std.specs.Fmt.{decimal}
use Rattle.text_parts.specs.Texts.{word_text, place_text}
use Rattle.text_parts.specs.Telling.{Telling}
use Rattle.topology.specs.Parts.{kind_word, field_word}
use Rattle.topology.specs.declared.fault.TopoFault.{TopoFault}
use Rattle.topology.specs.declared.fault.TopoFault.TheVariants.{NotJson, Shape, TooMany, BadName, Twice, AsRange, AsTwice, IdTwice, UnknownEnd, LinkTwice, SelfLink, PeerLink, NoMemory}

-- the number under which a fault is printed: of several broken rules the one with the least number is told
abbrev pub number_of : TopoFault → ℕ
number_of NotJson = 1
number_of (Shape f) = 2
number_of (TooMany k n) = 3
number_of (BadName k p) = 4
number_of (Twice n) = 5
number_of (AsRange n) = 6
number_of (AsTwice a b) = 7
number_of (IdTwice a b) = 8
number_of (UnknownEnd p) = 9
number_of (LinkTwice p) = 10
number_of (SelfLink p) = 11
number_of (PeerLink p) = 12
number_of NoMemory = 0

-- the word of a fault
abbrev pub word_of : TopoFault → List ℕ
word_of NotJson = codes "not-json"
word_of (Shape f) = codes "shape"
word_of (TooMany k n) = codes "too-many"
word_of (BadName k n) = codes "name"
word_of (Twice a) = codes "twice"
word_of (AsRange a) = codes "as-range"
word_of (AsTwice a b) = codes "as-twice"
word_of (IdTwice a b) = codes "id-twice"
word_of (UnknownEnd n) = codes "unknown-end"
word_of (LinkTwice n) = codes "link-twice"
word_of (SelfLink n) = codes "self-link"
word_of (PeerLink n) = codes "peer-link"
word_of NoMemory = codes "no-memory"

-- its values, each after a space
abbrev pub values_of : TopoFault → List ℕ
values_of NotJson = []
values_of (Shape f) = word_text (field_word f)
values_of (TooMany k n) = word_text (kind_word k) ++ word_text (decimal n)
values_of (BadName k n) = word_text (kind_word k) ++ place_text n
values_of (Twice a) = word_text a
values_of (AsRange a) = word_text a
values_of (AsTwice a b) = word_text a ++ word_text b
values_of (IdTwice a b) = word_text a ++ word_text b
values_of (UnknownEnd n) = place_text n
values_of (LinkTwice n) = place_text n
values_of (SelfLink n) = place_text n
values_of (PeerLink n) = place_text n
values_of NoMemory = []

-- how each fault is told, and which one is want of memory
abbrev pub told : Telling TopoFault
told = record { number_of = number_of; word_of = word_of; values_of = values_of; no_memory = NoMemory }
