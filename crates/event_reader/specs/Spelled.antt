-- The events that bytes spell.
use Rattle.std.specs.Prelude.{ℕ, List, Result}
use Rattle.json_values.specs.Json.{json_of}
use Rattle.net_base.specs.Network.{PlainNet}
use Rattle.net_base.specs.Steps.{◌>>=◌, or_fault}
use Rattle.event_reader.specs.declared.events.Events.{Events}
use Rattle.event_reader.specs.declared.fault.EventsFault.{EventsFault}
use Rattle.event_reader.specs.declared.fault.EventsFault.TheVariants.{NotJson}
use Rattle.event_reader.specs.Rules.{judged}
use Rattle.event_reader.specs.Shape.{shape_of}

-- The bytes are a JSON value, the value has the shape of an event text, and what it says keeps the rules of the network; else the least
-- rule that is broken.
unfoldable pub spelled : PlainNet → List ℕ → Result Events EventsFault
spelled net bytes = do
  value ← or_fault NotJson (json_of bytes)
  said ← shape_of value
  judged net said
