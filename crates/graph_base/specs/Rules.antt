-- What is asked of the graph of a case, and of the preference numbers of its nodes.
use Rattle.std.specs.Prelude.{◌≡◌, ℕ, ◌<◌, ◌≤◌, Bool, false, not, ◌&&◌, ◌||◌, ◌==◌, IsTrue, nat_eq, length, map, Some}
use Rattle.std.specs.List.{IsDistinct}
use Rattle.net_base.specs.Network.{PlainNet, is_peer, is_router, linked}
use Rattle.graph_base.specs.Graphs.{PlainGraph}
use Rattle.graph_base.specs.Runs.{place_of, is_listener, rank_at, is_start, has_step, Reaches}

abbrev pub same_pair : ℕ × ℕ → ℕ × ℕ → Bool
same_pair a b = a.0 == b.0 && a.1 == b.1

-- A graph over a network, for these origins. Where the case is external all peers are origins, and else routers are.
pub record IsWellFormed (net : PlainNet) (origin : ℕ → Bool) (external : Bool) (g : PlainGraph) : Type 0 where
  -- starts are at origins, at most one at each, and they alone are there
  pub starts : (n : ℕ) → IsTrue (is_start g n) → IsTrue (origin (place_of g n))
  pub one_start : IsDistinct nat_eq (map (place_of g) g.starts)
  pub alone : (n : ℕ) → n < length g.nodes → IsTrue (origin (place_of g n)) → IsTrue (is_start g n)
  -- steps go over links to nodes that aren't starts, at most one from a node to a location
  pub links : (m n : ℕ) → IsTrue (has_step g m n) → IsTrue (linked net (place_of g m) (place_of g n) && not (is_start g n))
  pub one_step : IsDistinct same_pair (map (λ (s : ℕ × ℕ). (s.0, place_of g s.1)) g.steps)
  -- only starts and nodes at routers have steps
  pub from : (m n : ℕ) → IsTrue (has_step g m n) → IsTrue (is_start g m || is_router net (place_of g m))
  -- steps into peers are there only where the origins are routers
  pub into : (m n : ℕ) → IsTrue (has_step g m n && is_peer net (place_of g n)) → external ≡ false
  -- the nodes that hear are those at peers that aren't starts
  pub listeners : (n : ℕ) → n < length g.nodes → is_listener g n ≡ (is_peer net (place_of g n) && not (is_start g n))

-- m and n are nodes at one router, and the number of m is at least that of n
pub record IsOver (net : PlainNet) (g : PlainGraph) (number : ℕ → ℕ) (m n : ℕ) : Type 0 where
  pub better : m < length g.nodes
  pub worse : n < length g.nodes
  pub place : place_of g m ≡ place_of g n
  pub router : IsTrue (is_router net (place_of g n))
  pub numbers : number n ≤ number m

-- n steps to a node that doesn't hear, or to one that does
abbrev pub steps_on : PlainGraph → ℕ → ℕ → Bool
steps_on g n t = has_step g n t && not (is_listener g t)

abbrev pub is_heard : PlainGraph → ℕ → ℕ → Bool
is_heard g n t = has_step g n t && is_listener g t

-- ---- the rules that keep a router's choice from costing it, or who hears from it, a better path: where m is over n,

-- at a claimed router m has no worse a rank
abbrev pub KeepsRank : PlainNet → (ℕ → Type 0) → PlainGraph → (ℕ → ℕ) → ℕ → ℕ → Type 0
KeepsRank net Claimed g number m n = (i : ℕ) → IsOver net g number m n → Claimed (place_of g n) → rank_at g n ≡ Some i → (j : ℕ) × (rank_at g m ≡ Some j) × (j ≤ i)

-- m steps to each router to which n does, and to a node of no less a number
abbrev pub KeepsStep : PlainNet → PlainGraph → (ℕ → ℕ) → ℕ → ℕ → Type 0
KeepsStep net g number m n = (t : ℕ) → IsOver net g number m n → IsTrue (steps_on g n t) → (s : ℕ) × IsTrue (steps_on g m s) × (place_of g s ≡ place_of g t) × (number t ≤ number s)

-- no node there from which m can be reached has a lesser number than the one to which n steps
abbrev pub KeepsLoop : PlainNet → PlainGraph → (ℕ → ℕ) → ℕ → ℕ → Type 0
KeepsLoop net g number m n = (t k : ℕ) → IsOver net g number m n → IsTrue (steps_on g n t) → k < length g.nodes → place_of g k ≡ place_of g t → Reaches g k m → number t ≤ number k

-- and m is heard at each peer at which n is, with no worse a rank
abbrev pub KeepsListener : PlainNet → Bool → PlainGraph → (ℕ → ℕ) → ℕ → ℕ → Type 0
KeepsListener net external g number m n = (t i : ℕ) → external ≡ false → IsOver net g number m n → IsTrue (is_heard g n t) → rank_at g t ≡ Some i
    → (s j : ℕ) × IsTrue (is_heard g m s) × (place_of g s ≡ place_of g t) × (rank_at g s ≡ Some j) × (j ≤ i)

-- The numbers keep each rule at each pair of nodes.
pub record MeetsRules (net : PlainNet) (Claimed : ℕ → Type 0) (external : Bool) (g : PlainGraph) (number : ℕ → ℕ) : Type 0 where
  pub rank : (m n : ℕ) → KeepsRank net Claimed g number m n
  pub step : (m n : ℕ) → KeepsStep net g number m n
  pub loop : (m n : ℕ) → KeepsLoop net g number m n
  pub listener : (m n : ℕ) → KeepsListener net external g number m n
