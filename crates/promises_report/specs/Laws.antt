-- The laws of promises.
use Rattle.std.specs.Prelude.{◌≡◌, ℕ, suc, List, Option, Some, slice_get, is_some}
use Rattle.net_base.specs.Network.{PlainNet, IsNet}
use Rattle.net_base.specs.Prefixes.{PlainPrefix, IsPrefix}
use Rattle.policy_base.specs.Governing.{statement_of}
use Rattle.policy_base.specs.Policies.{PlainPolicy, PlainStatement, IsPolicyOf, statement_at}
use Rattle.graph_base.specs.Graphs.{PlainGraph}
use Rattle.config_base.specs.Configs.{PlainConfig}
use Rattle.config_base.specs.Lines.{class_of}
use Rattle.evidence_base.specs.Made.{PlainCaseEvidence}
use Rattle.evidence_law.specs.Passes.{Passes}
use Rattle.impact_law.specs.BestRanks.{AreTops, rank_by}
use Rattle.impact_law.specs.Impacts.{begin_at}
use Rattle.outcome_base.specs.Outcomes.{no_failures}
use Rattle.promises_report.specs.Claims.{IsLeastRank, IsSourceIn}
use Rattle.promises_report.specs.NodeRanks.{has_rank_in}
use Rattle.promises_report.specs.Promises.{AreKept, ArePromises, Promises}

-- the promises that tops tell, and the ranks of nodes
abbrev pub told_by : PlainGraph → (ℕ → Option ℕ) → Promises
told_by g top = record {
  rank = rank_by g top;
  passes = λ r. is_some (top r);
  has_rank = has_rank_in g;
}

-- what holds of each case of a policy, with its statement and the tops without failures in its graph
abbrev pub OfEachCase : (PlainNet → PlainPolicy → PlainConfig → ℕ → PlainStatement → PlainCaseEvidence → (ℕ → Option ℕ) → Type 0) → Type 0
OfEachCase Holds =
    (net : PlainNet) (policy : PlainPolicy) (config : PlainConfig) (cs : List PlainCaseEvidence) → IsNet net → IsPolicyOf net policy → Passes net policy config cs
    → (k : ℕ) (d : PlainCaseEvidence) (s : PlainStatement) → slice_get cs k ≡ Some d → statement_at policy d.case.statement ≡ Some s
    → (top : ℕ → Option ℕ) → AreTops net no_failures d top → Holds net policy config k s d top

-- The tops tell the promises for the case,
abbrev pub TopsTellPromises : Type 0
TopsTellPromises = OfEachCase (λ net policy config k s d top. ArePromises net s d.case (told_by d.graph top))

-- and these are kept for every prefix of the case.
abbrev pub PromisesAreKept : Type 0
PromisesAreKept =
    OfEachCase (λ net policy config k s d top. (p : PlainPrefix) → IsPrefix p → class_of config p ≡ Some (suc k)
    → (statement_of policy p ≡ Some s) × AreKept net policy config p s d.case (told_by d.graph top))

-- While nothing has failed every claimed source has an allowed path, so a best rank.
abbrev pub ClaimedSourcesHaveRanks : Type 0
ClaimedSourcesHaveRanks =
    (net : PlainNet) (policy : PlainPolicy) (config : PlainConfig) (cs : List PlainCaseEvidence) → IsNet net → IsPolicyOf net policy → Passes net policy config cs
    → (k : ℕ) (d : PlainCaseEvidence) (s : PlainStatement) → slice_get cs k ≡ Some d → statement_at policy d.case.statement ≡ Some s
    → (r : ℕ) (peer : Option ℕ) → IsSourceIn net s d.case r peer → (n : ℕ) × IsLeastRank net s d.case (begin_at r peer) n
