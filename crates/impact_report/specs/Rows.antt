-- The rows of an impact.
use Rattle.std.specs.Prelude.{◌≡◌, List, map}
use Rattle.net_base.specs.Network.{PlainNet}
use Rattle.net_base.specs.Prefixes.{PlainPrefix}
use Rattle.policy_base.specs.Policies.{PlainPolicy, PlainStatement}
use Rattle.graph_base.specs.Graphs.{PlainGraph}
use Rattle.evidence_base.specs.Made.{PlainCaseEvidence}
use Rattle.outcome_base.specs.Outcomes.{Failures}
use Rattle.evidence_law.specs.Passes.{IsCaseGraph}
use Rattle.impact_law.specs.BestRanks.{AreToldByTops}
use Rattle.impact_law.specs.Cuts.{with_cut}
use Rattle.impact_law.specs.Impacts.{IsRanking, changed, row_of}
use Rattle.impact_law.specs.declared.impact.Cut.{Cut}
use Rattle.impact_law.specs.declared.impact.CutRow.{CutRow}
use Rattle.impact_law.specs.declared.impact.SourceRank.{SourceRank}
use Rattle.cut_ranks.specs.Left.{IsOpened}

-- the case is that of the prefix, this is what failures leave of its graph, and its sources with their best ranks are the base
pub record IsBase (net : PlainNet) (policy : PlainPolicy) (f : Failures) (p : PlainPrefix) (s : PlainStatement) (c : PlainCaseEvidence) (opened : PlainGraph) (base : List SourceRank) : Type 0 where
  pub on : IsCaseGraph net s c
  pub left : IsOpened net f c.graph opened
  pub told : (h : Failures) → AreToldByTops net policy h p s c
  pub ranking : IsRanking net policy f p s base

-- Whatever policy, failures, prefix and statement they are of: the list tells what a cut changes of the base.
abbrev pub IsChange : PlainNet → PlainCaseEvidence → PlainGraph → List SourceRank → Cut → List SourceRank → Type 0
IsChange net c opened base cut list =
    (policy : PlainPolicy) (f : Failures) (p : PlainPrefix) (s : PlainStatement) → IsBase net policy f p s c opened base
    → (after : List SourceRank) → IsRanking net policy (with_cut cut f) p s after → list ≡ changed base after

-- the rows of some cuts
abbrev pub AreRows : PlainNet → PlainCaseEvidence → PlainGraph → List SourceRank → List Cut → List CutRow → Type 0
AreRows net c opened base cuts rows =
    (policy : PlainPolicy) (f : Failures) (p : PlainPrefix) (s : PlainStatement) → IsBase net policy f p s c opened base
    → (after : Cut → List SourceRank) → ((cut : Cut) → IsRanking net policy (with_cut cut f) p s (after cut))
    → rows ≡ map (λ (cut : Cut). row_of cut (changed base (after cut))) cuts
