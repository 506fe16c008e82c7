-- The cuts that the tables tell are those of what lives.
use Rattle.std.proofs.Common.{◌≡◌, ℕ, ◌+◌, Bool, true, false, not, List, [], ◌∷◌, ◌++◌, append-nil, map, filter, ap, ◌∙◌}
use Rattle.std.specs.Prelude.{if◌then◌else◌}
use Rattle.std.proofs.lemmas.List.{map-append}
use Rattle.std.proofs.lemmas.List.Elements.{filter-append}
use Rattle.net_base.specs.Locations.{numbers_below}
use Rattle.net_base.specs.Network.{PlainNet}
use Rattle.net_base.specs.Sets.{holds}
use Rattle.net_base.proofs.NumbersBelow.{filter_kept, filter_left}
use Rattle.scenarios.specs.Surviving.{live_by}
use Rattle.scenarios.specs.declared.survivors.Survivors.{Survivors}
use Rattle.impact_law.specs.declared.impact.Cut.TheVariants.{Router}
use Rattle.cut_ranks.specs.Lives.{link_cut, link_cuts, router_cuts}

-- ---- one link more

links_next : (net : PlainNet) (s : Survivors) (links : List (ℕ × ℕ)) (link : ℕ × ℕ) → link_cuts net s (links ++ link ∷ []) ≡ link_cuts net s links ++ link_cuts net s (link ∷ [])
links_next net s links link =
    let lives : ℕ × ℕ → Bool = λ (l : ℕ × ℕ). live_by net s l.0 l.1 in
    ap (map link_cut) (filter-append lives links (link ∷ [])) ∙ map-append link_cut (filter lives links) (filter lives (link ∷ []))

pub link_same : (net : PlainNet) (s : Survivors) (links : List (ℕ × ℕ)) (link : ℕ × ℕ) → live_by net s link.0 link.1 ≡ false → link_cuts net s (links ++ link ∷ []) ≡ link_cuts net s links
link_same net s links link is =
    links_next net s links link ∙ ap (λ b. link_cuts net s links ++ map link_cut (if b then link ∷ [] else [])) is ∙ append-nil (link_cuts net s links)

-- ---- one router more

abbrev router_lives : Survivors → ℕ → Bool
router_lives s r = not (holds s.dead r)

pub router_more : (s : Survivors) (n : ℕ) → not (holds s.dead n) ≡ true → router_cuts s (n + 1) ≡ router_cuts s n ++ Router n ∷ []
router_more s n is = ap (map Router) (filter_kept (router_lives s) n is) ∙ map-append Router (filter (router_lives s) (numbers_below n)) (n ∷ [])

pub router_same : (s : Survivors) (n : ℕ) → not (holds s.dead n) ≡ false → router_cuts s (n + 1) ≡ router_cuts s n
router_same s n is = ap (map Router) (filter_left (router_lives s) n is)

-- ---- together
