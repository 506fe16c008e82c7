-- When an event is refused.
use Rattle.std.specs.Prelude.{◌≡◌, Option, Some, None, Result, Ok, Err}
use Rattle.event_base.specs.declared.event.EventFault.{EventFault}
use Rattle.event_base.specs.declared.event.EventFault.TheVariants.{NothingWaits, NotUp, NotDown, NoLink, NoMemory}

-- it happens where it has no fault, and is refused for the fault that it has; memory is refused only where it has none
abbrev pub IsCause : {A : Type 0} → Result A EventFault → Option EventFault → Type 0
IsCause (Ok u) fault = fault ≡ None
IsCause (Err NothingWaits) fault = fault ≡ Some NothingWaits
IsCause (Err NotUp) fault = fault ≡ Some NotUp
IsCause (Err NotDown) fault = fault ≡ Some NotDown
IsCause (Err NoLink) fault = fault ≡ Some NoLink
IsCause (Err NoMemory) fault = fault ≡ None
