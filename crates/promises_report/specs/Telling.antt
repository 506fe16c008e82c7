-- What the graph of a case tells of the promises for it.
use Rattle.std.specs.Prelude.{◌≡◌, ℕ, Option}
use Rattle.net_base.specs.Network.{PlainNet}
use Rattle.policy_base.specs.Policies.{PlainStatement}
use Rattle.evidence_base.specs.Made.{PlainCaseEvidence}
use Rattle.evidence_law.specs.Passes.{IsCaseGraph}
use Rattle.impact_law.specs.BestRanks.{AreTops}
use Rattle.outcome_base.specs.Outcomes.{no_failures}
use Rattle.cut_ranks.specs.Tops.{entry_at}
use Rattle.promises_report.specs.Laws.{told_by}
use Rattle.promises_report.specs.Promises.{Promises}
use Rattle.promises_report.specs.declared.told.Told.{Told}

-- the promises that tops tell, as the code holds them
abbrev pub promises_in : Told → Promises
promises_in t = told_by t.case.now.graph (entry_at t.tops.items)

-- the promises that tops without failures tell
abbrev pub IsTold : PlainNet → PlainCaseEvidence → Promises → Type 0
IsTold net d a = (top : ℕ → Option ℕ) × ((s : PlainStatement) → IsCaseGraph net s d → AreTops net no_failures d top) × (a ≡ told_by d.graph top)
