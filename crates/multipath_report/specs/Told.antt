-- What is told of an outcome, as the code holds it.
use Rattle.std.specs.Prelude.{ℕ, ◌≤◌, List, Option}
use Rattle.std.specs.Option.{ForSome}
use Rattle.net_base.specs.Network.{PlainNet}
use Rattle.location_names.specs.Neighbours.{is_held}
use Rattle.policy_base.specs.declared.limits.TheConstants.{ALTERNATIVES}
use Rattle.policy_base.specs.Meaning.{alternative_count}
use Rattle.policy_base.specs.Policies.{PlainStatement, policy_of}
use Rattle.scenarios.specs.Scenarios.{failures_of}
use Rattle.scenarios.specs.Situations.{IsSituation}
use Rattle.scenarios.specs.declared.situation.Situation.{Situation}
use Rattle.outcome_claims.specs.Claims.{sources_of, statement_in}
use Rattle.outcome_report.specs.Lines.{Shown}
use Rattle.outcome_report.specs.Report.{shown_of}
use Rattle.multipath_report.specs.Texts.{router_line, session_line}
use Rattle.multipath_report.specs.declared.told.Told.{Told}

-- what an outcome shows
abbrev pub shown_in : Situation → Shown
shown_in s = shown_of s.net.now (policy_of s.policy.now) s.config.now (failures_of s.scenario.now) s.scenario.now.prefix s.outcome.now.routes

abbrev pub net_in : Told → PlainNet
net_in t = t.situation.now.net.now

abbrev pub statement_for : Told → Option PlainStatement
statement_for t = statement_in t.claims

-- the situation's tables tell what it is, and the statement has few enough alternatives
pub record IsTold (t : Told) : Type 0 where
  pub situation : IsSituation t.situation.now
  pub limits : ForSome (statement_for t) (λ s. alternative_count s.ranked ≤ ALTERNATIVES)

-- the lines of a router, and of a session
abbrev pub router_line_in : Told → ℕ → List ℕ
router_line_in t = router_line (net_in t) (policy_of t.situation.now.policy.now) t.situation.now.scenario.now.prefix (statement_for t) (sources_of t.claims) (shown_in t.situation.now) (is_held t.sets.now)

abbrev pub session_line_in : Told → ℕ × ℕ → List ℕ
session_line_in t = session_line (net_in t) (statement_for t) (shown_in t.situation.now)
