-- What is done to a link, and to all links of a location.
use Rattle.std.specs.Prelude.{ℕ}
use Rattle.config_base.specs.declared.route.Route.{Route}
use Rattle.event_base.specs.World.{Speakers, World, at, emptied, is, joins, tell, touches}
use Rattle.event_core.specs.declared.telling.Deed.{Deed}
use Rattle.event_core.specs.declared.telling.Deed.TheVariants.{TellOther, TellBoth, Forget}

-- to the link of two locations
abbrev pub to_link : Deed → ℕ → ℕ → Speakers Route → World Route → World Route
to_link TellOther a b net w = tell net (is a b) w
to_link TellBoth a b net w = tell net (joins a b) w
to_link Forget a b net w = emptied net (joins a b) w

-- to all links of a location, of which it is the first end
abbrev pub to_links : Deed → ℕ → Speakers Route → World Route → World Route
to_links TellOther r net w = tell net (λ a b. at r a) w
to_links TellBoth r net w = tell net (touches r) w
to_links Forget r net w = emptied net (touches r) w
