-- When a graph says of walks what a statement says of them.
use Rattle.std.specs.Prelude.{◌≡◌, ℕ, ◌<◌, Bool, false, not, ◌&&◌, ◌||◌, IsTrue, List, [], ◌∷◌, ◌++◌, length, Some, None, is_some, IsSome}
use Rattle.net_base.specs.Network.{PlainNet}
use Rattle.policy_base.specs.Policies.{PlainStatement}
use Rattle.policy_base.specs.Meaning.{at_first, rank_of}
use Rattle.policy_base.specs.Walks.{is_walk}
use Rattle.policy_base.specs.Permitted.{ends_at_origin, from_holds}
use Rattle.graph_base.specs.Graphs.{PlainGraph}
use Rattle.graph_base.specs.Runs.{place_of, rank_at, run}
use Rattle.graph_base.specs.Rules.{IsWellFormed}

-- a walk to an origin, which no other place of it is
abbrev pub is_walk_to : PlainNet → (ℕ → Bool) → List ℕ → Bool
is_walk_to net origin path = is_walk net path && ends_at_origin origin path

abbrev pub is_origin_alone : (ℕ → Bool) → List ℕ → Bool
is_origin_alone origin [] = false
is_origin_alone origin (l ∷ []) = origin l
is_origin_alone origin (l ∷ k ∷ ls) = false

-- what can have a run
abbrev pub is_run_path : PlainNet → (ℕ → Bool) → List ℕ → Bool
is_run_path net origin path = is_walk_to net origin path || is_origin_alone origin path

-- a walk that the statement permits: it starts in its `from` set and has a rank
abbrev pub permits : PlainNet → (ℕ → Bool) → PlainStatement → List ℕ → Bool
permits net origin s path = is_walk_to net origin path && at_first (from_holds s.from) path && is_some (rank_of net s.ranked path)

-- the locations at which a walk may start
abbrev pub may_start : (ℕ → Bool) → PlainStatement → ℕ → Bool
may_start origin s l = from_holds s.from l && not (origin l)

-- a walk, or an origin alone, that is a suffix of a permitted walk has a run
abbrev pub HasRuns : PlainNet → PlainStatement → (ℕ → Bool) → PlainGraph → Type 0
HasRuns net s origin g = (above path : List ℕ) → IsTrue (is_run_path net origin path) → IsTrue (permits net origin s (above ++ path)) → IsSome (run g path)

-- and no other walk, or origin alone, has one
abbrev pub HasNoOtherRuns : PlainNet → PlainStatement → (ℕ → Bool) → PlainGraph → Type 0
HasNoOtherRuns net s origin g = (path : List ℕ) → IsTrue (is_run_path net origin path) → IsSome (run g path) → (above : List ℕ) × IsTrue (permits net origin s (above ++ path))

-- the node ends some run
abbrev pub IsEnded : PlainNet → (ℕ → Bool) → PlainGraph → ℕ → Type 0
IsEnded net origin g n = (path : List ℕ) × IsTrue (is_run_path net origin path) × (run g path ≡ Some n)

-- The graph has a run for exactly the walks that can still be permitted, and each node ends one.
pub record HasWalks (net : PlainNet) (s : PlainStatement) (origin : ℕ → Bool) (external : Bool) (g : PlainGraph) : Type 0 where
  pub formed : IsWellFormed net origin external g
  pub has_run : HasRuns net s origin g
  pub has_no_other : HasNoOtherRuns net s origin g
  pub is_ended : (n : ℕ) → n < length g.nodes → IsEnded net origin g n

-- A node has the rank of the walks that end there, where a walk may start, and none elsewhere.
pub record HasRank (net : PlainNet) (s : PlainStatement) (origin : ℕ → Bool) (g : PlainGraph) (n : ℕ) : Type 0 where
  pub walks : (path : List ℕ) → run g path ≡ Some n → IsTrue (may_start origin s (place_of g n)) → rank_at g n ≡ rank_of net s.ranked path
  pub elsewhere : IsTrue (not (may_start origin s (place_of g n))) → rank_at g n ≡ None

-- The graph has a run for exactly the walks that can still be permitted, and its ranks are theirs.
pub record IsFaithful (net : PlainNet) (s : PlainStatement) (origin : ℕ → Bool) (external : Bool) (g : PlainGraph) : Type 0 where
  pub formed : IsWellFormed net origin external g
  -- a walk, or an origin alone, has a run exactly where it's a suffix of a permitted walk
  pub has_run : HasRuns net s origin g
  pub has_no_other : HasNoOtherRuns net s origin g
  -- every node ends some run
  pub is_ended : (n : ℕ) → n < length g.nodes → IsEnded net origin g n
  -- a node where a walk may start has the rank of the walks that end there, and every other one has none
  pub ranks : (path : List ℕ) (n : ℕ) → run g path ≡ Some n → IsTrue (may_start origin s (place_of g n)) → rank_at g n ≡ rank_of net s.ranked path
  pub unranked : (n : ℕ) → n < length g.nodes → IsTrue (not (may_start origin s (place_of g n))) → rank_at g n ≡ None
