-- What is sent, without where its path lies in memory.
use Rattle.config_base.specs.declared.route.Route.{Route}
use Rattle.event_state.specs.declared.sending.Sent.{Sent}

-- a route as it travels
abbrev pub message_of : Sent → Route
message_of s = record { path = s.path.now; tag = s.tag; pref = 0 }
