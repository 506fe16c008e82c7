-- The steps of all paths of an outcome.
use Rattle.std.specs.Prelude.{ℕ, Bool, List, [], ◌∷◌, ◌++◌, Option, Some, None, filter, is_some, map}
use Rattle.std.specs.List.{flat_map}
use Rattle.config_base.specs.declared.route.Route.{Route}
use Rattle.outcome_claims.specs.Reported.{offered_in}
use Rattle.outcome_claims.specs.declared.reported.ReportedOutcome.{ReportedOutcome}

-- from each place of a path to the next one
abbrev pub steps_of : List ℕ → List (ℕ × ℕ)
steps_of [] = []
steps_of (l ∷ []) = []
steps_of (l ∷ k ∷ ls) = (l, k) ∷ steps_of (k ∷ ls)

abbrev pub held_steps : Option Route → List (ℕ × ℕ)
held_steps None = []
held_steps (Some h) = steps_of h.path

-- over the link a router offers a peer something
abbrev pub is_offer : ReportedOutcome → ℕ × ℕ → Bool
is_offer s link = is_some (offered_in s link.0 link.1)

-- the first step of what the peer is offered
abbrev pub offer_step : ℕ × ℕ → ℕ × ℕ
offer_step link = (link.1, link.0)

-- those of routes, and the first step of what each peer is offered
abbrev pub steps_in : ReportedOutcome → List (ℕ × ℕ)
steps_in s = flat_map held_steps s.outcome.now.routes ++ map offer_step (filter (is_offer s) s.net.now.links)
