-- An outcome's situation.
use Rattle.std.specs.Prelude.{◌≡◌, ℕ, Bool, false, Option, option_map}
use Rattle.std.specs.List.{list_any}
use Rattle.std.specs.Option.{option_map_or}
use Rattle.net_base.specs.Sets.{holds}
use Rattle.policy_base.specs.Governing.{is_origin}
use Rattle.policy_base.specs.Policies.{policy_of}
use Rattle.config_base.specs.Lines.{class_of}
use Rattle.config_base.specs.declared.route.Route.{Route}
use Rattle.outcome_base.specs.Outcomes.{given, route_at}
use Rattle.scenarios.specs.Scenarios.{failures_of}
use Rattle.scenarios.specs.Surviving.{AreSurvivors}
use Rattle.scenarios.specs.Tests.{IsSettledAt, far_end, is_higher, is_route}
use Rattle.scenarios.specs.declared.choice.Choices.{Choices}
use Rattle.scenarios.specs.declared.situation.Situation.{Situation}

-- the class and the origins are those of the prefix, and the tables tell what fails
pub record IsSituation (s : Situation) : Type 0 where
  pub class : s.class ≡ class_of s.config.now s.scenario.now.prefix
  pub origins : (l : ℕ) → holds s.origins l ≡ is_origin s.net.now (policy_of s.policy.now) s.scenario.now.prefix l
  pub survivors : AreSurvivors s.net.now (failures_of s.scenario.now) s.survivors

-- the route that a neighbour gives a router, if it gives one
abbrev pub given_in : Situation → ℕ → ℕ → Option Route
given_in s from to = given s.net.now (policy_of s.policy.now) s.config.now (failures_of s.scenario.now) s.scenario.now.prefix s.outcome.now.routes from to

-- the route that a router holds
abbrev pub held_in : Situation → ℕ → Option Route
held_in s r = route_at s.outcome.now.routes r

-- what a stable outcome says of one router
abbrev pub IsSettledIn : Situation → ℕ → Type 0
IsSettledIn s r = IsSettledAt s.net.now (policy_of s.policy.now) s.config.now (failures_of s.scenario.now) s.scenario.now.prefix s.outcome.now.routes r

-- a neighbour gives a router the route that it holds
abbrev pub held_from : Situation → ℕ → ℕ → Bool
held_from s z r = option_map_or (is_route (given_in s z r)) (held_in s r) false

-- a neighbour gives a router a route of a higher preference than it holds, or any where it holds none
abbrev pub outdone_from : Situation → ℕ → ℕ → Bool
outdone_from s z r = is_higher (given_in s z r) (option_map (λ (h : Route). h.pref) (held_in s r))

-- over the link a neighbour gives a router the route that it holds
abbrev pub gives_held : Situation → ℕ → ℕ × ℕ → Bool
gives_held s r link = option_map_or (λ z. held_from s z r) (far_end r link) false

-- over the link a neighbour gives a router a route of a higher preference than it holds, or any where it holds none
abbrev pub outdoes_held : Situation → ℕ → ℕ × ℕ → Bool
outdoes_held s r link = option_map_or (λ z. outdone_from s z r) (far_end r link) false

-- the routers that are given the route that they hold, and those that are given a route of a higher preference than it, or any where they hold none
pub record AreChoices (s : Situation) (c : Choices) : Type 0 where
  pub given : (r : ℕ) → holds c.given r ≡ list_any (gives_held s r) s.net.now.links
  pub outdone : (r : ℕ) → holds c.outdone r ≡ list_any (outdoes_held s r) s.net.now.links
