-- An outcome's situation.
use Rattle.std.specs.Prelude.{ℕ, List, Option, option_map}
use Rattle.net_base.specs.Network.{PlainNet}
use Rattle.config_base.specs.declared.route.Route.{Route}
use Rattle.evidence_base.specs.Made.{PlainCaseEvidence}
use Rattle.outcome_base.specs.Outcomes.{Failures, Outcome, is_dead, route_at}
use Rattle.scenarios.specs.Scenarios.{failures_of}
use Rattle.outcome_claims.specs.declared.reported.ReportedOutcome.{ReportedOutcome}
use Rattle.outcome_report.specs.Lines.{Shown}
use Rattle.outcome_claims.specs.Offers.{offered_by}
use Rattle.outcome_claims.specs.Reported.{case_in}

-- what an outcome shows under some failures, by the case of the prefix
abbrev pub shown_by : PlainNet → Failures → Outcome → Option PlainCaseEvidence → Shown
shown_by net f outcome case = record {
  dead = is_dead f;
  path = λ r. option_map (λ (h : Route). h.path) (route_at outcome r);
  offer = offered_by net f outcome case;
}

-- what is shown
abbrev pub shown_in : ReportedOutcome → Shown
shown_in s = shown_by s.net.now (failures_of s.scenario.now) s.outcome.now.routes (case_in s)
