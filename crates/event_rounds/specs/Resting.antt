-- How soon a network comes to rest, round by round.
use Rattle.std.specs.Prelude.{◌≡◌, ℕ, ◌≤◌, List}
use Rattle.config_base.specs.declared.route.Route.{Route}
use Rattle.event_base.specs.declared.event.Event.{Event}
use Rattle.event_base.specs.Steps.{IsQuiet, opening, run}
use Rattle.event_base.specs.World.{Speakers, World}
use Rattle.rest_law.specs.Ways.{each_way}
use Rattle.rest_law.specs.Laws.{each_round, each_waiting}
use Rattle.rest_law.specs.Rounds.{deliveries}

module _ (links : List (ℕ × ℕ)) where
  -- A round: link by link, first from its first end to its second and then back, as many messages as wait there when the round begins.
  abbrev pub round_in : World Route → List (ℕ × ℕ)
  round_in w = each_waiting w (each_way links)

  module _ (net : Speakers Route) where
    -- So many rounds, one after another.
    abbrev pub rounds_in : ℕ → World Route → List (ℕ × ℕ)
    rounds_in rounds w = each_round net (each_way links) rounds w

    -- the world after them
    abbrev pub world_in : ℕ → World Route → World Route
    world_in rounds w = run net (deliveries (rounds_in rounds w)) w

    -- After so many rounds no message waits, and after fewer of them some does.
    pub record RestsIn (rounds : ℕ) (w : World Route) : Type 0 where
      pub quiet : IsQuiet (world_in rounds w)
      pub no_sooner : (k : ℕ) → IsQuiet (world_in k w) → rounds ≤ k

-- some events, from the opening on, lead to the world
abbrev pub IsReached : Speakers Route → World Route → Type 0
IsReached net w = (es : List Event) × (w ≡ run net es (opening net))
