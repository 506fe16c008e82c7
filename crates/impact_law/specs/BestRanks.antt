-- The best rank that failures leave a source, and the node that tells it.
use Rattle.std.specs.Prelude.{◌≡◌, ℕ, suc, ◌≤◌, IsTrue, List, [], ◌∷◌, ◌++◌, Option, Some, None, option_and_then, slice_get, if◌then◌else◌}
use Rattle.net_base.specs.Network.{PlainNet, IsNet, is_router}
use Rattle.net_base.specs.Prefixes.{PlainPrefix, IsPrefix}
use Rattle.policy_base.specs.Policies.{PlainPolicy, PlainStatement, IsPolicyOf}
use Rattle.policy_base.specs.Meaning.{rank_of}
use Rattle.policy_base.specs.Governing.{statement_of}
use Rattle.policy_base.specs.Permitted.{IsClaimedRouter, IsClaimedSession}
use Rattle.graph_base.specs.Graphs.{PlainGraph}
use Rattle.graph_base.specs.Runs.{rank_at, step_at}
use Rattle.config_base.specs.Configs.{PlainConfig}
use Rattle.config_base.specs.Lines.{class_of}
use Rattle.evidence_base.specs.Made.{PlainCaseEvidence, number_at}
use Rattle.outcome_base.specs.Outcomes.{Failures, is_live, survives}
use Rattle.evidence_law.specs.Passes.{Passes}
use Rattle.outcome_base.specs.Right.{IsGood, NoneSurvives}
use Rattle.settled_law.specs.Greatest.{IsReachedAt}

-- The least rank of the allowed paths that survive and begin with `begin`: a router, or a peer and a router. None where no such path survives.
abbrev pub IsBestRank : PlainNet → PlainPolicy → Failures → PlainPrefix → PlainStatement → List ℕ → Option ℕ → Type 0
IsBestRank net policy f p s begin None = NoneSurvives net policy f p s begin
IsBestRank net policy f p s begin (Some n) =
    ((rest : List ℕ) × IsGood net policy f p s (begin ++ rest) × (rank_of net s.ranked (begin ++ rest) ≡ Some n))
    × ((rest : List ℕ) (m : ℕ) → IsGood net policy f p s (begin ++ rest) → rank_of net s.ranked (begin ++ rest) ≡ Some m → n ≤ m)

-- n is reached at r, and no node that is reached there has a greater number
pub record IsTopAt (net : PlainNet) (f : Failures) (c : PlainCaseEvidence) (r n : ℕ) : Type 0 where
  pub reached : IsReachedAt net f c r n
  pub over : (m : ℕ) → IsReachedAt net f c r m → number_at c m ≤ number_at c n

-- at each router a top, where a node is reached there
pub record AreTops (net : PlainNet) (f : Failures) (c : PlainCaseEvidence) (top : ℕ → Option ℕ) : Type 0 where
  pub some : (r n : ℕ) → top r ≡ Some n → IsTopAt net f c r n
  pub none : (r : ℕ) → IsTrue (is_router net r) → top r ≡ None → (n : ℕ) → ¬ IsReachedAt net f c r n

-- the rank of the node to which a node steps at a peer
abbrev pub rank_at_peer : PlainGraph → ℕ → ℕ → Option ℕ
rank_at_peer g n peer = option_and_then (rank_at g) (step_at g n peer)

-- the rank that a node tells of a router, or of its session to a peer
abbrev pub rank_of_node : PlainGraph → Option ℕ → ℕ → Option ℕ
rank_of_node g None n = rank_at g n
rank_of_node g (Some peer) n = rank_at_peer g n peer

-- the rank that a router's top tells
abbrev pub rank_by : PlainGraph → (ℕ → Option ℕ) → ℕ → Option ℕ → Option ℕ
rank_by g top r peer = option_and_then (rank_of_node g peer) (top r)

-- the rank of the node to which a router's top steps at a peer, over a link that lives
abbrev pub rank_over : PlainNet → Failures → PlainCaseEvidence → ℕ → ℕ → ℕ → Option ℕ
rank_over net f c n r peer = if is_live net f r peer then rank_at_peer c.graph n peer else None

-- Best ranks are told by the numbers of the nodes that are reached, and by no path:
pub record AreToldByTops (net : PlainNet) (policy : PlainPolicy) (f : Failures) (p : PlainPrefix) (s : PlainStatement) (c : PlainCaseEvidence) : Type 0 where
  -- a claimed router has the rank of its top, and none where no node is reached at it;
  pub router : (r n : ℕ) → IsClaimedRouter net policy p s r → IsTopAt net f c r n → IsBestRank net policy f p s (r ∷ []) (rank_at c.graph n)
  pub no_router : (r : ℕ) → IsClaimedRouter net policy p s r → ((n : ℕ) → ¬ IsReachedAt net f c r n) → IsBestRank net policy f p s (r ∷ []) None
  -- a claimed session has that of the node to which the router's top steps at the peer, over a link that lives.
  pub session : (r peer n : ℕ) → IsClaimedSession net policy p s r peer → IsTopAt net f c r n → IsBestRank net policy f p s (peer ∷ r ∷ []) (rank_over net f c n r peer)
  pub no_session : (r peer : ℕ) → IsClaimedSession net policy p s r peer → ((n : ℕ) → ¬ IsReachedAt net f c r n) → IsBestRank net policy f p s (peer ∷ r ∷ []) None

abbrev pub TopsTellBestRanks : Type 0
TopsTellBestRanks = (net : PlainNet) (policy : PlainPolicy) (config : PlainConfig) (cs : List PlainCaseEvidence) → IsNet net → IsPolicyOf net policy → Passes net policy config cs
    → (p : PlainPrefix) (f : Failures) (s : PlainStatement) (k : ℕ) (c : PlainCaseEvidence) → IsPrefix p → statement_of policy p ≡ Some s → class_of config p ≡ Some (suc k) → slice_get cs k ≡ Some c
    → AreToldByTops net policy f p s c

-- a source has one best rank
abbrev pub BestRanksAreOne : Type 0
BestRanksAreOne = (net : PlainNet) (policy : PlainPolicy) (f : Failures) (p : PlainPrefix) (s : PlainStatement) (begin : List ℕ) (a b : Option ℕ)
    → IsBestRank net policy f p s begin a → IsBestRank net policy f p s begin b → a ≡ b

-- Where g leaves no more than f does, and a top of f's is still reached, it's still the top.
abbrev pub TopsThatAreReachedStay : Type 0
TopsThatAreReachedStay = (net : PlainNet) (f g : Failures) (c : PlainCaseEvidence) (r n : ℕ) → ((path : List ℕ) → IsTrue (survives net g path) → IsTrue (survives net f path))
    → IsTopAt net f c r n → IsReachedAt net g c r n → IsTopAt net g c r n

-- A prefix without a class has no sources.
abbrev pub NothingIsClaimedWithoutAClass : Type 0
NothingIsClaimedWithoutAClass = (net : PlainNet) (policy : PlainPolicy) (config : PlainConfig) (cs : List PlainCaseEvidence) → IsNet net → IsPolicyOf net policy → Passes net policy config cs
    → (p : PlainPrefix) (s : PlainStatement) → IsPrefix p → statement_of policy p ≡ Some s → class_of config p ≡ None
    → ((r : ℕ) → ¬ IsClaimedRouter net policy p s r) × ((r peer : ℕ) → ¬ IsClaimedSession net policy p s r peer)
