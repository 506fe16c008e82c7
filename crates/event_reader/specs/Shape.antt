-- The shape of an event text.
use Rattle.std.specs.Prelude.{ℕ, ◌==◌, length, slice_get, List, Result, Ok, Err, codes, if◌then◌else◌}
use Rattle.serde_json.specs.Data.{Data}
use Rattle.serde_json.specs.Events.{members_len}
use Rattle.serde_json.specs.Find.{get, as_object, as_str}
use Rattle.json_values.specs.Json.{list_at}
use Rattle.net_base.specs.Steps.{◌>>=◌, or_fault, unless, each_from}
use Rattle.event_reader.specs.declared.fault.EventsFault.{EventsFault}
use Rattle.event_reader.specs.declared.fault.EventsFault.TheVariants.{Shape}
use Rattle.event_reader.specs.declared.words.LinkWord.{LinkWord}
use Rattle.event_reader.specs.declared.words.RouterWord.{RouterWord}
use Rattle.event_reader.specs.Words.{link_word, router_word}

-- an event before its names are looked up: between two locations, or to a router
pub data SaidEvent : Type 0 where
  OnLink : LinkWord → List ℕ → List ℕ → SaidEvent
  AtRouter : RouterWord → List ℕ → SaidEvent

-- the text at a place of an array, from 0
unfoldable pub text_in : ℕ → List Data → ℕ → Result (List ℕ) EventsFault
text_in place parts i = do
  part ← or_fault (Shape place) (slice_get parts i)
  or_fault (Shape place) (as_str part)

-- a word and two names
unfoldable pub between_two : ℕ → List Data → Result SaidEvent EventsFault
between_two place parts = do
  text ← text_in place parts 0
  word ← or_fault (Shape place) (link_word text)
  first ← text_in place parts 1
  second ← text_in place parts 2
  Ok (OnLink word first second)

-- a word and a name
unfoldable pub of_router : ℕ → List Data → Result SaidEvent EventsFault
of_router place parts = do
  text ← text_in place parts 0
  word ← or_fault (Shape place) (router_word text)
  router ← text_in place parts 1
  Ok (AtRouter word router)

-- an array of exactly these
unfoldable pub event_of : ℕ → Data → Result SaidEvent EventsFault
event_of place d = do
  parts ← or_fault (Shape place) (list_at d)
  if length parts == 3 then between_two place parts else (if length parts == 2 then of_router place parts else Err (Shape place))

-- what an event text says, before its names are looked up
pub record Said : Type 0 where
  pub prefix : List ℕ
  pub events : List SaidEvent

-- an object with exactly the keys `prefix` and `events`: a text and an array of events, which count from 1
unfoldable pub shape_of : Data → Result Said EventsFault
shape_of d = do
  members ← or_fault (Shape 0) (as_object d)
  prefix ← or_fault (Shape 0) (get (codes "prefix") d)
  events ← or_fault (Shape 0) (get (codes "events") d)
  _ ← unless (Shape 0) (members_len members == 2)
  prefix ← or_fault (Shape 0) (as_str prefix)
  events ← or_fault (Shape 0) (list_at events)
  events ← each_from event_of 1 events
  Ok (record { prefix = prefix; events = events })
