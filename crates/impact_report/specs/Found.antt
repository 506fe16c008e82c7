-- What is found by the graph of a case.
use Rattle.std.specs.Prelude.{◌≡◌, ℕ, List, Option, map}
use Rattle.net_base.specs.Network.{PlainNet}
use Rattle.policy_base.specs.Policies.{PlainStatement}
use Rattle.evidence_base.specs.Made.{PlainCaseEvidence}
use Rattle.outcome_base.specs.Outcomes.{Failures}
use Rattle.evidence_law.specs.Passes.{IsCaseGraph}
use Rattle.scenarios.specs.declared.survivors.Survivors.{Survivors}
use Rattle.settled_outcome.specs.Surviving.{left_by}
use Rattle.impact_law.specs.BestRanks.{AreTops, rank_by}
use Rattle.impact_law.specs.declared.impact.Cut.{Cut}
use Rattle.impact_law.specs.declared.impact.Impact.{Impact}
use Rattle.impact_report.specs.declared.sources.Source.{Source}
use Rattle.cut_ranks.specs.Left.{IsOpened}
use Rattle.impact_report.specs.Rows.{AreRows}
use Rattle.impact_report.specs.Sources.{with_rank}

-- the sources have the ranks that the tops tell which the failures leave, and the rows are those of the cuts
pub record IsFound (net : PlainNet) (survivors : Survivors) (c : PlainCaseEvidence) (sources : List Source) (cuts : List Cut) (found : Impact) : Type 0 where
  pub top : ℕ → Option ℕ
  pub tops : (s : PlainStatement) (f : Failures) → IsCaseGraph net s c → IsOpened net f c.graph (left_by net survivors c.graph) → AreTops net f c top
  pub base : found.base ≡ map (with_rank (rank_by (left_by net survivors c.graph) top)) sources
  pub rows : AreRows net c (left_by net survivors c.graph) found.base cuts found.rows
