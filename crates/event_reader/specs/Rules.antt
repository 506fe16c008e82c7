-- The rules of an event text.
use Rattle.std.specs.Prelude.{ℕ, List, Result, Ok, length, nat_le}
use Rattle.std.specs.List.{position}
use Rattle.std.specs.Result.{result_ok}
use Rattle.std.specs.Str.{bytes_eq}
use Rattle.event_reader.specs.declared.limits.TheConstants.{EVENTS}
use Rattle.net_base.specs.Network.{PlainNet}
use Rattle.net_base.specs.PrefixText.{prefix_spelled}
use Rattle.net_base.specs.Steps.{◌>>=◌, or_fault, unless, each_from}
use Rattle.location_names.specs.Names.{names_of}
use Rattle.event_base.specs.declared.event.Event.{Event}
use Rattle.event_reader.specs.declared.events.Events.{Events}
use Rattle.event_reader.specs.declared.fault.EventsFault.{EventsFault}
use Rattle.event_reader.specs.declared.fault.EventsFault.TheVariants.{TooMany, Unknown, BadPrefix}
use Rattle.event_reader.specs.Shape.{SaidEvent, OnLink, AtRouter, Said}
use Rattle.event_reader.specs.Words.{link_event, router_event}

-- the location of a name
unfoldable pub located : List (List ℕ) → ℕ → List ℕ → Result ℕ EventsFault
located names place name = or_fault (Unknown place) (position (bytes_eq name) names)

-- the event at a place, its names those of locations
unfoldable pub placed : List (List ℕ) → ℕ → SaidEvent → Result Event EventsFault
placed names place (OnLink word first second) = do
  a ← located names place first
  b ← located names place second
  Ok (link_event word a b)
placed names place (AtRouter word router) = do
  r ← located names place router
  Ok (router_event word r)

-- the events, or the least rule that is broken
unfoldable pub judged : PlainNet → Said → Result Events EventsFault
judged net said = do
  _ ← unless (TooMany (length said.events)) (nat_le (length said.events) EVENTS)
  events ← each_from (placed (names_of net)) 1 said.events
  prefix ← or_fault BadPrefix (result_ok (prefix_spelled said.prefix))
  Ok (record { prefix = prefix; events = events })
