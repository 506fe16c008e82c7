-- Which cuts can change a best rank: those of what a support goes over.
use Rattle.std.specs.Prelude.{◌≡◌, ℕ, suc, ◌<◌, Bool, not, ◌||◌, IsTrue, List, [], ◌∷◌, Option, Some, None, slice_get, length}
use Rattle.net_base.specs.Network.{PlainNet, IsNet}
use Rattle.net_base.specs.Prefixes.{PlainPrefix, IsPrefix}
use Rattle.policy_base.specs.Policies.{PlainPolicy, PlainStatement, IsPolicyOf}
use Rattle.policy_base.specs.Governing.{statement_of}
use Rattle.policy_base.specs.Permitted.{IsClaimedRouter, IsClaimedSession}
use Rattle.graph_base.specs.Graphs.{PlainGraph}
use Rattle.graph_base.specs.Runs.{place_of, is_start, has_step}
use Rattle.config_base.specs.Configs.{PlainConfig}
use Rattle.config_base.specs.Lines.{class_of}
use Rattle.evidence_base.specs.Made.{PlainCaseEvidence}
use Rattle.outcome_base.specs.Outcomes.{Failures, is_dead, is_dead_link, no_failures}
use Rattle.evidence_law.specs.Passes.{Passes, IsCaseGraph}
use Rattle.settled_law.specs.Greatest.{IsReachedAt}
use Rattle.impact_law.specs.BestRanks.{IsBestRank, IsTopAt}

-- Nodes, each of which is a start or has a parent among them that steps to it and was found earlier.
pub record IsSupport (g : PlainGraph) (on : ℕ → Bool) (parent : ℕ → Option ℕ) (time : ℕ → ℕ) : Type 0 where
  pub node : (n : ℕ) → IsTrue (on n) → n < length g.nodes
  pub first : (n : ℕ) → IsTrue (on n) → parent n ≡ None → IsTrue (is_start g n)
  pub later : (n m : ℕ) → IsTrue (on n) → parent n ≡ Some m → IsTrue (on m) × IsTrue (has_step g m n) × (time m < time n)

-- what fails spares the places of these nodes, and the links from their parents
pub record IsSpared (f : Failures) (g : PlainGraph) (on : ℕ → Bool) (parent : ℕ → Option ℕ) : Type 0 where
  pub place : (n : ℕ) → IsTrue (on n) → IsTrue (not (is_dead f (place_of g n)))
  pub link : (n m : ℕ) → IsTrue (on n) → parent n ≡ Some m → IsTrue (not (is_dead_link f (place_of g n) (place_of g m)))

-- the top of a router without failures, which is on the support; none where no node is reached
abbrev pub IsTopOf : PlainNet → PlainCaseEvidence → (ℕ → Bool) → ℕ → Option ℕ → Type 0
IsTopOf net c on r None = (n : ℕ) → ¬ IsReachedAt net no_failures c r n
IsTopOf net c on r (Some n) = IsTopAt net no_failures c r n × IsTrue (on n)

-- Dead locations and links that spare a support which has the tops of claimed routers change no best rank,
-- but of sessions whose link doesn't live.
pub record AreSparedRanks (net : PlainNet) (policy : PlainPolicy) (f : Failures) (p : PlainPrefix) (s : PlainStatement) : Type 0 where
  pub router : (r : ℕ) (rank : Option ℕ) → IsClaimedRouter net policy p s r → IsBestRank net policy no_failures p s (r ∷ []) rank → IsBestRank net policy f p s (r ∷ []) rank
  pub session : (r peer : ℕ) (rank : Option ℕ) → IsClaimedSession net policy p s r peer → IsTrue (not (is_dead f r || is_dead f peer || is_dead_link f r peer))
      → IsBestRank net policy no_failures p s (peer ∷ r ∷ []) rank → IsBestRank net policy f p s (peer ∷ r ∷ []) rank

abbrev pub CutsOffTheSupportChangeNothing : Type 0
CutsOffTheSupportChangeNothing = (net : PlainNet) (policy : PlainPolicy) (config : PlainConfig) (cs : List PlainCaseEvidence) → IsNet net → IsPolicyOf net policy → Passes net policy config cs
    → (p : PlainPrefix) (f : Failures) (s : PlainStatement) (k : ℕ) (c : PlainCaseEvidence) → IsPrefix p → statement_of policy p ≡ Some s → class_of config p ≡ Some (suc k) → slice_get cs k ≡ Some c
    → (on : ℕ → Bool) (parent : ℕ → Option ℕ) (time : ℕ → ℕ) → IsSupport c.graph on parent time → IsSpared f c.graph on parent → f.silent ≡ []
    → (top : ℕ → Option ℕ) → ((r : ℕ) → IsClaimedRouter net policy p s r → IsTopOf net c on r (top r)) → ((r peer : ℕ) → IsClaimedSession net policy p s r peer → IsTopOf net c on r (top r))
    → AreSparedRanks net policy f p s

-- Every claimed source has a best rank, none included.
abbrev pub BestRanksExist : Type 0
BestRanksExist = (net : PlainNet) (policy : PlainPolicy) (config : PlainConfig) (cs : List PlainCaseEvidence) → IsNet net → IsPolicyOf net policy → Passes net policy config cs
    → (p : PlainPrefix) (f : Failures) (s : PlainStatement) → IsPrefix p → statement_of policy p ≡ Some s
    → ((r : ℕ) → IsClaimedRouter net policy p s r → (rank : Option ℕ) × IsBestRank net policy f p s (r ∷ []) rank)
    × ((r peer : ℕ) → IsClaimedSession net policy p s r peer → (rank : Option ℕ) × IsBestRank net policy f p s (peer ∷ r ∷ []) rank)

-- Without failures every node is reached, where it stands, and nothing else is.
abbrev pub NodesAreReachedWithoutFailures : Type 0
NodesAreReachedWithoutFailures = (net : PlainNet) (s : PlainStatement) (c : PlainCaseEvidence) → IsCaseGraph net s c
    → ((n : ℕ) → n < length c.graph.nodes → IsReachedAt net no_failures c (place_of c.graph n) n)
    × ((r n : ℕ) (f : Failures) → IsReachedAt net f c r n → (n < length c.graph.nodes) × (place_of c.graph n ≡ r))
