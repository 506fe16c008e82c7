-- What peers are offered in an outcome, as the code holds it.
use Rattle.std.specs.Prelude.{ℕ, List, Option, option_map}
use Rattle.evidence_base.specs.Made.{PlainCaseEvidence}
use Rattle.scenarios.specs.Scenarios.{failures_of}
use Rattle.outcome_claims.specs.Offers.{offered_by}
use Rattle.outcome_claims.specs.declared.reported.ReportedOutcome.{ReportedOutcome}

-- the case of its prefix
abbrev pub case_in : ReportedOutcome → Option PlainCaseEvidence
case_in s = option_map (λ c. c.now) s.case

-- the path that a peer is offered
abbrev pub offered_in : ReportedOutcome → ℕ → ℕ → Option (List ℕ)
offered_in s r peer = offered_by s.net.now (failures_of s.scenario.now) s.outcome.now.routes (case_in s) r peer
