-- What neighbours send and give, without where its path lies in memory.
use Rattle.std.specs.Prelude.{ℕ, List, ◌∷◌}
use Rattle.net_base.specs.declared.numbers.Tag.{Tag}
use Rattle.config_base.specs.declared.route.Route.{Route}
use Rattle.scenarios.specs.declared.gifts.Announcement.{Announcement}
use Rattle.scenarios.specs.declared.gifts.Imported.{Imported}

-- a path and the tag that goes with it
abbrev pub plain_announcement : Announcement → List ℕ × Tag
plain_announcement s = (s.path.now, s.tag)

-- the route that its receiver makes of it
abbrev pub route_of : ℕ → Imported → Route
route_of to g = record { path = to ∷ g.path.now; tag = g.tag; pref = g.pref }
