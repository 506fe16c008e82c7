-- The report of an outcome.
use Rattle.std.specs.Prelude.{◌≡◌, ◌++◌, ℕ, List, option_map}
use Rattle.net_base.specs.Network.{PlainNet}
use Rattle.net_base.specs.Prefixes.{PlainPrefix}
use Rattle.policy_base.specs.Policies.{PlainPolicy}
use Rattle.config_base.specs.Configs.{PlainConfig}
use Rattle.config_base.specs.declared.route.Route.{Route}
use Rattle.outcome_base.specs.Outcomes.{Failures, Outcome, is_dead, offered, route_at}
use Rattle.outcome_claims.specs.Claims.{AreClaimed, Sources}
use Rattle.outcome_report.specs.Lines.{Shown, report_text}

-- what an outcome shows under some failures
abbrev pub shown_of : PlainNet → PlainPolicy → PlainConfig → Failures → PlainPrefix → Outcome → Shown
shown_of net policy config f p outcome = record {
  dead = is_dead f;
  path = λ r. option_map (λ (h : Route). h.path) (route_at outcome r);
  offer = offered net policy config f p outcome;
}

-- The text is the report of what an outcome shows, with the sources that the policy claims.
pub record IsReport (net : PlainNet) (policy : PlainPolicy) (config : PlainConfig) (p : PlainPrefix) (shown : Shown) (text : List ℕ) : Type 0 where
  pub sources : Sources
  pub claimed : AreClaimed net policy p sources
  pub spelled : text ≡ report_text net policy config p sources shown

-- What was written before, and then a report.
abbrev pub AddsReport : PlainNet → PlainPolicy → PlainConfig → PlainPrefix → Shown → List ℕ → List ℕ → Type 0
AddsReport net policy config p shown old new = (text : List ℕ) × IsReport net policy config p shown text × (new ≡ old ++ text)

-- The text is the report of an outcome.
abbrev pub IsReportOf : PlainNet → PlainPolicy → PlainConfig → Failures → PlainPrefix → Outcome → List ℕ → Type 0
IsReportOf net policy config f p outcome text = IsReport net policy config p (shown_of net policy config f p outcome) text
