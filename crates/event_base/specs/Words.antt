-- The words of events that are refused.
use Rattle.std.specs.Prelude.{ℕ, List, codes}
use Rattle.event_base.specs.declared.event.EventFault.{EventFault}
use Rattle.event_base.specs.declared.event.EventFault.TheVariants.{NothingWaits, NotUp, NotDown, NoLink, NoMemory}

-- why an event is refused, in a word
abbrev pub word_of : EventFault → List ℕ
word_of NothingWaits = codes "nothing-waits"
word_of NotUp = codes "not-up"
word_of NotDown = codes "not-down"
word_of NoLink = codes "no-link"
word_of NoMemory = codes "no-memory"
