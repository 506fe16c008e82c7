-- The laws of configurations that are made of evidence.
use Rattle.std.specs.Prelude.{◌≡◌, ◌↔◌, ℕ, ◌<◌, Bool, not, ◌&&◌, IsTrue, List, ◌++◌, length, Option, Some, None}
use Rattle.net_base.specs.Network.{PlainNet, IsNet, is_router}
use Rattle.net_base.specs.Prefixes.{PlainPrefix, IsPrefix}
use Rattle.policy_base.specs.Policies.{PlainPolicy, PlainStatement, IsPolicyOf}
use Rattle.policy_base.specs.Governing.{is_origin, statement_of}
use Rattle.policy_base.specs.Permitted.{is_permitted, IsClaimedRouter}
use Rattle.graph_base.specs.Graphs.{PlainGraph, IsGraph}
use Rattle.config_base.specs.declared.route.Route.{Route}
use Rattle.config_base.specs.Configs.{PlainConfig}
use Rattle.evidence_base.specs.Made.{PlainCaseEvidence}
use Rattle.outcome_base.specs.Outcomes.{Failures, Outcome, route_at, IsStable, offered}
use Rattle.outcome_base.specs.Right.{IsGood, IsBare, IsRight}
use Rattle.evidence_law.specs.Faithful.{IsFaithful, HasWalks, HasRank, is_run_path}
use Rattle.evidence_law.specs.Passes.{IsMadeOf, Passes}
use Rattle.graph_base.specs.Rules.{IsWellFormed}
use Rattle.graph_base.specs.Runs.{run}

-- Paths of claimed routers and offers are allowed and survive; the path of every other router is a suffix of a permitted walk.
pub record IsSoundBy (net : PlainNet) (policy : PlainPolicy) (config : PlainConfig) (f : Failures) (p : PlainPrefix) (s : PlainStatement) (outcome : Outcome) : Type 0 where
  pub used : (r : ℕ) (h : Route) → IsClaimedRouter net policy p s r → route_at outcome r ≡ Some h → IsGood net policy f p s h.path
  pub offers : (r peer : ℕ) (path : List ℕ) → offered net policy config f p outcome r peer ≡ Some path → IsGood net policy f p s path
  pub transit : (r : ℕ) (h : Route) → IsTrue (is_router net r && not (is_origin net policy p r)) → route_at outcome r ≡ Some h
      → (above : List ℕ) × IsTrue (is_permitted net policy p s (above ++ h.path))

abbrev pub IsSoundOutcome : PlainNet → PlainPolicy → PlainConfig → Failures → PlainPrefix → Outcome → Type 0
IsSoundOutcome net policy config f p outcome = by_statement (statement_of policy p)
  where
    by_statement : Option PlainStatement → Type 0
    by_statement None = IsBare net policy config f p outcome
    by_statement (Some s) = IsSoundBy net policy config f p s outcome

-- The configuration lets only allowed paths be used: for every prefix, all failures and every stable outcome.
abbrev pub IsSound : PlainNet → PlainPolicy → PlainConfig → Type 0
IsSound net policy config =
    (p : PlainPrefix) (f : Failures) (outcome : Outcome) → IsPrefix p → length outcome ≡ length net.routers
    → IsStable net policy config f p outcome → IsSoundOutcome net policy config f p outcome

-- Whatever the numbers are, a configuration that is made of the graphs of its cases lets only allowed paths be used.
abbrev pub UsedPathsAreAllowed : Type 0
UsedPathsAreAllowed =
    (net : PlainNet) (policy : PlainPolicy) (config : PlainConfig) (cs : List PlainCaseEvidence) → IsNet net → IsPolicyOf net policy
    → IsMadeOf net policy config cs → IsSound net policy config

-- Where the evidence passes, the configuration is right.
abbrev pub PassingEvidenceIsRight : Type 0
PassingEvidenceIsRight =
    (net : PlainNet) (policy : PlainPolicy) (config : PlainConfig) (cs : List PlainCaseEvidence) → IsNet net → IsPolicyOf net policy
    → Passes net policy config cs → IsRight net policy config

-- And whatever fails, there is a stable outcome for every prefix.
abbrev pub StableOutcomesExist : Type 0
StableOutcomesExist = (net : PlainNet) (policy : PlainPolicy) (config : PlainConfig) (cs : List PlainCaseEvidence) → IsNet net → IsPolicyOf net policy → Passes net policy config cs
    → (p : PlainPrefix) (f : Failures) → IsPrefix p → (outcome : Outcome) × (length outcome ≡ length net.routers) × IsStable net policy config f p outcome

-- A graph is faithful exactly where it has the walks of the statement, and each node the rank of its walks.
abbrev pub FaithfulIsWalksAndRanks : Type 0
FaithfulIsWalksAndRanks = (net : PlainNet) (s : PlainStatement) (origin : ℕ → Bool) (external : Bool) (g : PlainGraph) → IsGraph g
    → IsFaithful net s origin external g ↔ HasWalks net s origin external g × ((n : ℕ) → n < length g.nodes → HasRank net s origin g n)

-- In a well-formed graph each path with a run is a walk to an origin, or an origin alone.
abbrev pub RunsAreWalks : Type 0
RunsAreWalks = (net : PlainNet) (origin : ℕ → Bool) (external : Bool) (g : PlainGraph) → IsGraph g → IsWellFormed net origin external g
    → (path : List ℕ) (n : ℕ) → run g path ≡ Some n → IsTrue (is_run_path net origin path)
