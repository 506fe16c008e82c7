-- What is said of an outcome, in its situation.
use Rattle.std.specs.Prelude.{◌≡◌, ℕ, Bool, Option, Some, None}
use Rattle.policy_base.specs.Policies.{policy_of}
use Rattle.config_base.specs.declared.route.Route.{Route}
use Rattle.scenarios.specs.Scenarios.{failures_of}
use Rattle.scenarios.specs.Situations.{IsSettledIn}
use Rattle.scenarios.specs.declared.situation.Situation.{Situation}
use Rattle.table_audit.specs.declared.verdict.AuditVerdict.{AuditVerdict}
use Rattle.table_audit.specs.Verdicts.{Fails, IsTopGiver, IsVerdict, is_choosing, router_of}

abbrev pub is_choosing_in : Situation → ℕ → Bool
is_choosing_in s r = is_choosing s.net.now (policy_of s.policy.now) (failures_of s.scenario.now) s.scenario.now.prefix r

-- z gives r the highest preference that is given, and of several who give it z is the least
abbrev pub IsTopGiverIn : Situation → ℕ → ℕ → Route → Type 0
IsTopGiverIn s r z g = IsTopGiver s.net.now (policy_of s.policy.now) s.config.now (failures_of s.scenario.now) s.scenario.now.prefix s.outcome.now.routes r z g

-- the router is settled, or the verdict names it and says how it fails
abbrev pub IsFaultIn : Situation → ℕ → Option AuditVerdict → Type 0
IsFaultIn s r None = IsSettledIn s r
IsFaultIn s r (Some v) = (router_of v ≡ Some r) × Fails s.net.now (policy_of s.policy.now) s.config.now (failures_of s.scenario.now) s.scenario.now.prefix s.outcome.now.routes v

abbrev pub IsVerdictIn : Situation → AuditVerdict → Type 0
IsVerdictIn s v = IsVerdict s.net.now (policy_of s.policy.now) s.config.now (failures_of s.scenario.now) s.scenario.now.prefix s.outcome.now.routes v
