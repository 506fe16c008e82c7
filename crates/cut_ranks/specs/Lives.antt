-- The cuts that can come besides what has failed, by the tables of what lives.
use Rattle.std.specs.Prelude.{ℕ, not, List, map, filter}
use Rattle.net_base.specs.Locations.{numbers_below}
use Rattle.net_base.specs.Network.{PlainNet}
use Rattle.net_base.specs.Sets.{holds}
use Rattle.scenarios.specs.Surviving.{live_by}
use Rattle.scenarios.specs.declared.survivors.Survivors.{Survivors}
use Rattle.impact_law.specs.declared.impact.Cut.{Cut}
use Rattle.impact_law.specs.declared.impact.Cut.TheVariants.{Link, Router}

abbrev pub link_cut : ℕ × ℕ → Cut
link_cut link = Link link.0 link.1

-- the links of a list that live
abbrev pub link_cuts : PlainNet → Survivors → List (ℕ × ℕ) → List Cut
link_cuts net s links = map link_cut (filter (λ (link : ℕ × ℕ). live_by net s link.0 link.1) links)

-- the routers below a number that live
abbrev pub router_cuts : Survivors → ℕ → List Cut
router_cuts s count = map Router (filter (λ (r : ℕ). not (holds s.dead r)) (numbers_below count))
