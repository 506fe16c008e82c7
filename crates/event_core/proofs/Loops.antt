-- One more neighbour, in a loop over the neighbours of a location, and all of them.
use Rattle.std.proofs.Common.{◌≡◌, ℕ, ◌+◌, ◌<◌, ◌≤◌, List, [], ◌∷◌, ◌++◌, take, length, get_or, sym, ap, ◌∙◌, arith}
use Rattle.std.proofs.lemmas.List.{take_all, take_more}
use Rattle.net_base.specs.Locations.{neighbours}
use Rattle.config_base.specs.declared.route.Route.{Route}
use Rattle.event_base.specs.Speaking.{speakers_of}
use Rattle.event_base.specs.World.{Speakers, World as Plain}
use Rattle.event_state.specs.declared.world.World.{World}
use Rattle.event_state.specs.States.{setting, speakers, state}

-- what speaks and chooses in a world is told by what no event changes
pub same_speakers : (v w : World) → setting v ≡ setting w → speakers v ≡ speakers w
same_speakers v w same = ap (λ s. speakers_of s.0 s.1 s.2 s.3) same

-- so a later step is one of those who spoke and chose before
pub step_on : (f : Speakers Route → Plain Route → Plain Route) (mid before : World) → setting mid ≡ setting before → {was after : Plain Route}
    → state mid ≡ was → after ≡ f (speakers mid) (state mid) → after ≡ f (speakers before) was
step_on f mid before same so_far e = e ∙ ap (λ S. f S (state mid)) (same_speakers mid before same) ∙ ap (f (speakers before)) so_far

module _ (before : World) (at : ℕ) {place : ℕ} {near : List ℕ} (first : near ≡ neighbours before.net.now at) where
  -- one more neighbour, which is looked up in the world as it stands
  pub neighbour_more : (mid : World) → setting mid ≡ setting before → {here : List ℕ} {u : ℕ} → here ≡ neighbours mid.net.now at → place < length near
      → u ≡ get_or here place u → take (place + 1) (neighbours before.net.now at) ≡ take place (neighbours before.net.now at) ++ u ∷ []
  neighbour_more mid same {here} {u} now less item =
      let us = neighbours before.net.now at in
      let long : length near ≡ length us = ap length first in
      take_more us place u (omega (arith, long, less))
      ∙ ap (λ v. take place us ++ v ∷ []) (sym (item ∙ ap (λ xs. get_or xs place u) (now ∙ ap (λ s. neighbours s.0 at) same)))

  pub all_neighbours : length near ≤ place → take place (neighbours before.net.now at) ≡ neighbours before.net.now at
  all_neighbours past =
      let long : length near ≡ length (neighbours before.net.now at) = ap length first in
      take_all place (neighbours before.net.now at) (omega (arith, long, past))
