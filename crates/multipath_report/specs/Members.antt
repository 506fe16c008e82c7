-- Who is in a multipath set, as a test.
use Rattle.std.specs.Prelude.{ℕ, Bool, false, not, ◌&&◌, ◌==◌, Option, Some, None, length}
use Rattle.net_base.specs.Network.{PlainNet, is_router}
use Rattle.net_base.specs.Prefixes.{PlainPrefix}
use Rattle.policy_base.specs.Governing.{is_origin}
use Rattle.policy_base.specs.Policies.{PlainPolicy, policy_of}
use Rattle.config_base.specs.Configs.{PlainConfig}
use Rattle.config_base.specs.declared.route.Route.{Route}
use Rattle.outcome_base.specs.Outcomes.{Failures, Outcome, given, route_at}
use Rattle.scenarios.specs.Scenarios.{failures_of}
use Rattle.scenarios.specs.declared.situation.Situation.{Situation}

-- a route has the preference of the one that is held, and as many AS numbers
abbrev pub ties : Route → Route → Bool
ties g h = g.pref == h.pref && length g.path == length h.path

-- a route is held, one is given, and it ties
abbrev pub is_tied : Option Route → Option Route → Bool
is_tied (Some h) (Some g) = ties g h
is_tied _ _ = false

-- z is in the multipath set of r
abbrev pub is_member : PlainNet → PlainPolicy → PlainConfig → Failures → PlainPrefix → Outcome → ℕ → ℕ → Bool
is_member net policy config f p outcome r z = is_router net r && not (is_origin net policy p r) && is_tied (route_at outcome r) (given net policy config f p outcome z r)

abbrev pub member_in : Situation → ℕ → ℕ → Bool
member_in s = is_member s.net.now (policy_of s.policy.now) s.config.now (failures_of s.scenario.now) s.scenario.now.prefix s.outcome.now.routes
