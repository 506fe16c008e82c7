-- The refused events of a list.
use Rattle.std.specs.Prelude.{ℕ, ◌+◌, List, [], ◌∷◌, Option, Some, None}
use Rattle.config_base.specs.declared.route.Route.{Route}
use Rattle.event_base.specs.declared.event.Event.{Event}
use Rattle.event_base.specs.declared.event.EventFault.{EventFault}
use Rattle.event_base.specs.Steps.{fault_of, happens}
use Rattle.event_base.specs.World.{Speakers, World}
use Rattle.trace_report.specs.declared.refused.Refused.{Refused}

-- an event, where it is refused, and then others
abbrev pub noted : ℕ → Option EventFault → List Refused → List Refused
noted number None rest = rest
noted number (Some why) rest = record { number = number; why = why } ∷ rest

-- those of these events, of which the first has this number, in a world: each is judged in the world that the ones before it leave
abbrev pub refused_from : Speakers Route → ℕ → List Event → World Route → List Refused
refused_from net number [] w = []
refused_from net number (e ∷ es) w = noted number (fault_of net e w) (refused_from net (number + 1) es (happens net e w))
