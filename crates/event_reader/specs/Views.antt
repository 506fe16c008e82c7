-- What borrowed parts of a text say.
use Rattle.std.specs.Prelude.{map}
use Rattle.event_reader.specs.declared.shape.RawEvent.{RawEvent}
use Rattle.event_reader.specs.declared.shape.RawEvent.TheVariants.{Link, Router}
use Rattle.event_reader.specs.declared.shape.RawEvents.{RawEvents}
use Rattle.event_reader.specs.Shape.{SaidEvent, OnLink, AtRouter, Said}

abbrev pub raw_event : RawEvent → SaidEvent
raw_event (Link word a b) = OnLink word a.now b.now
raw_event (Router word r) = AtRouter word r.now

abbrev pub raw_events : RawEvents → Said
raw_events r = record { prefix = r.prefix.now; events = map raw_event r.events.items }
