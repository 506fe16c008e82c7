-- A network that has settled, and whom cuts move there.
use Rattle.std.specs.Prelude.{◌≡◌, List, map}
use Rattle.policy_base.specs.Policies.{IsPolicyOf, policy_of}
use Rattle.evidence_law.specs.Passes.{Passes}
use Rattle.outcome_base.specs.Outcomes.{Failures, Outcome}
use Rattle.scenarios.specs.Scenarios.{failures_of}
use Rattle.scenarios.specs.Situations.{IsSituation}
use Rattle.scenarios.specs.declared.situation.Situation.{Situation}
use Rattle.settled_outcome.specs.Outcomes.{IsOpen}
use Rattle.impact_law.specs.Cuts.{with_cut}
use Rattle.impact_law.specs.declared.impact.Cut.{Cut}
use Rattle.impact_law.specs.declared.impact.CutRow.{CutRow}
use Rattle.impact_law.specs.declared.impact.Moves.{Moves}
use Rattle.whatif_report.specs.Moves.{IsSettledOutcome, moves_by}
use Rattle.whatif_report.specs.Shifting.{keeps_set}
use Rattle.whatif_report.specs.declared.settled.SettledNet.{SettledNet}

-- an outcome is what settles under some failures
abbrev pub Settles : Situation → Failures → Outcome → Type 0
Settles s f outcome = IsSettledOutcome s.net.now (policy_of s.policy.now) s.config.now f s.scenario.now.prefix outcome

-- The evidence passes for its configuration, under which it has settled to its outcome, and the graph is what failures leave of the case's.
pub record IsSettledNet (s : SettledNet) : Type 0 where
  pub situation : IsSituation s.situation.now
  pub fits : IsPolicyOf s.situation.now.net.now (policy_of s.situation.now.policy.now)
  pub passes : Passes s.situation.now.net.now (policy_of s.situation.now.policy.now) s.situation.now.config.now s.evidence.now.cases
  pub settled : Settles s.situation.now (failures_of s.situation.now.scenario.now) s.situation.now.outcome.now.routes
  pub left : IsOpen s.situation.now.net.now s.situation.now.config.now s.evidence.now.cases (failures_of s.situation.now.scenario.now) s.situation.now.scenario.now.prefix s.left

-- whom a cut moves, if this is the outcome after it
abbrev pub moves_in : Situation → Cut → Outcome → Moves
moves_in s cut after =
    moves_by s.net.now cut s.outcome.now.routes after
    (keeps_set s.net.now (policy_of s.policy.now) s.config.now (failures_of s.scenario.now) (with_cut cut (failures_of s.scenario.now)) s.scenario.now.prefix s.outcome.now.routes after)

-- these it moves to whatever settles
abbrev pub MovesRight : Situation → Cut → Moves → Type 0
MovesRight s cut moves = (after : Outcome) → Settles s (with_cut cut (failures_of s.scenario.now)) after → moves ≡ moves_in s cut after

-- so for the cut of each row
abbrev pub AreMoves : Situation → List CutRow → List Moves → Type 0
AreMoves s rows moves =
    (after : Cut → Outcome) → ((cut : Cut) → Settles s (with_cut cut (failures_of s.scenario.now)) (after cut)) → moves ≡ map (λ (row : CutRow). moves_in s row.cut (after row.cut)) rows
