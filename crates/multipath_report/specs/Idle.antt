-- Over which links packets go, as a test.
use Rattle.std.specs.Prelude.{ℕ, Bool, ◌||◌, List, is_some}
use Rattle.net_base.specs.declared.loc.LocSet.{LocSet}
use Rattle.location_names.specs.Neighbours.{is_held}
use Rattle.policy_base.specs.Policies.{policy_of}
use Rattle.outcome_base.specs.Outcomes.{offered}
use Rattle.scenarios.specs.Scenarios.{failures_of}
use Rattle.scenarios.specs.declared.situation.Situation.{Situation}

-- the first end of the link, a router, offers the second a path
abbrev pub offered_over : Situation → ℕ × ℕ → Bool
offered_over s link = is_some (offered s.net.now (policy_of s.policy.now) s.config.now (failures_of s.scenario.now) s.scenario.now.prefix s.outcome.now.routes link.0 link.1)

-- one end is in the set of the other, or the second is offered a path
abbrev pub is_used_in : Situation → List LocSet → ℕ × ℕ → Bool
is_used_in s sets link = is_held sets link.0 link.1 || is_held sets link.1 link.0 || offered_over s link
