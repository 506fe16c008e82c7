-- What can fail besides what has failed: one link, or one router.
use Rattle.std.specs.Prelude.{ℕ, Bool, false, not, ◌==◌, List, ◌∷◌, ◌++◌, length, map, filter}
use Rattle.net_base.specs.Locations.{numbers_below}
use Rattle.net_base.specs.Network.{PlainNet}
use Rattle.outcome_base.specs.Outcomes.{Failures, is_dead, is_live}
use Rattle.impact_law.specs.declared.impact.Cut.{Cut}
use Rattle.impact_law.specs.declared.impact.Cut.TheVariants.{Link, Router}

abbrev pub with_cut : Cut → Failures → Failures
with_cut (Link a b) f = record f { dead_links = (a, b) ∷ f.dead_links }
with_cut (Router r) f = record f { dead = r ∷ f.dead }

-- the router is cut
abbrev pub is_cut : Cut → ℕ → Bool
is_cut (Link a b) r = false
is_cut (Router c) r = c == r

-- the links that live, in the network's order, then the routers that live, by location
abbrev pub live_cuts : PlainNet → Failures → List Cut
live_cuts net f =
    map (λ (link : ℕ × ℕ). Link link.0 link.1) (filter (λ (link : ℕ × ℕ). is_live net f link.0 link.1) net.links)
    ++ map Router (filter (λ (r : ℕ). not (is_dead f r)) (numbers_below (length net.routers)))
