-- What a router makes of what a neighbour was heard to say, without where its path lies in memory.
use Rattle.std.specs.Prelude.{ℕ, Bool, true, false, ◌∷◌, Option, Some, None}
use Rattle.net_base.specs.Network.{PlainNet}
use Rattle.config_base.specs.declared.route.Route.{Route}
use Rattle.event_base.specs.Speaking.{is_before}
use Rattle.event_state.specs.declared.choosing.Gift.{Gift}

-- who gives it, and the route
abbrev pub gift_of : Gift → ℕ × Route
gift_of g = (g.from, record { path = g.at ∷ g.path.now; tag = g.tag; pref = g.pref })

-- whether there is one that comes before the first one so far
abbrev pub leads_over : PlainNet → Option (ℕ × Route) → Option (ℕ × Route) → Bool
leads_over net None best = false
leads_over net (Some x) None = true
leads_over net (Some x) (Some y) = is_before net x y
