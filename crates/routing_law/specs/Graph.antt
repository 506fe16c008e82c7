-- Graphs of nodes with preference numbers, and what is asked of them. No failure is named here.
use Rattle.std.specs.Prelude.{ℕ, ◌≡◌, ◌≤◌, ◌<◌, Bool, true, false, ◌||◌, List, [], ◌∷◌, Option, Some, None}
use Rattle.std.specs.Option.{option_and_then}
use Rattle.routing_law.specs.Network.{Network}

pub record Graph : Type 0 where
  -- nodes are below it
  pub nodes : ℕ
  -- the location of a node
  pub place : ℕ → ℕ
  -- the start at a location
  pub start : ℕ → Option ℕ
  -- the node to which a node steps at a location, the way a route travels
  pub next : ℕ → ℕ → Option ℕ
  -- the preference number of a node
  pub number : ℕ → ℕ

-- the node in which the run along a path ends, from its last place to its first
abbrev pub run : Graph → List ℕ → Option ℕ
run g [] = None
run g (v ∷ []) = g.start v
run g (v ∷ u ∷ p) = option_and_then (λ n. g.next n v) (run g (u ∷ p))

-- the node that is come to from k by steps to these locations
abbrev pub follow : Graph → ℕ → List ℕ → Option ℕ
follow g k [] = Some k
follow g k (z ∷ zs) = option_and_then (λ n. follow g n zs) (g.next k z)

abbrev pub Reaches : Graph → ℕ → ℕ → Type 0
Reaches g k m = (zs : List ℕ) × (follow g k zs ≡ Some m)

-- Starts are at origins, one at each, and alone there. Only starts and nodes at routers have steps, to other places than origins.
pub record WellFormed (net : Network) (g : Graph) : Type 0 where
  pub start_origin : (o s : ℕ) → g.start o ≡ Some s → net.origin o ≡ true
  pub start_place : (o s : ℕ) → g.start o ≡ Some s → g.place s ≡ o
  pub start_below : (o s : ℕ) → g.start o ≡ Some s → (o < net.size) × (s < g.nodes)
  pub origin_start : (n : ℕ) → n < g.nodes → net.origin (g.place n) ≡ true → g.start (g.place n) ≡ Some n
  pub next_place : (n z m : ℕ) → g.next n z ≡ Some m → g.place m ≡ z
  pub next_below : (n z m : ℕ) → g.next n z ≡ Some m → (n < g.nodes) × (z < net.size) × (m < g.nodes)
  pub next_origin : (n z m : ℕ) → g.next n z ≡ Some m → net.origin z ≡ false
  pub next_from : (n z m : ℕ) → g.next n z ≡ Some m → (net.origin (g.place n) || net.router (g.place n)) ≡ true

-- m and n are nodes at one location, and the number of m is at least that of n
pub record AtLeast (g : Graph) (m n : ℕ) : Type 0 where
  pub known : m < g.nodes
  pub other : n < g.nodes
  pub place : g.place m ≡ g.place n
  pub number : g.number n ≤ g.number m

-- The rules that keep a router's choice from costing it, or a router behind it, a better path: for nodes at one router,
pub record MeetsRules (net : Network) (g : Graph) : Type 0 where
  -- the better one steps where the worse one does, and to no worse a node
  pub step : (m n z n' : ℕ) → net.router (g.place n) ≡ true → AtLeast g m n → net.router z ≡ true → g.next n z ≡ Some n' → (m' : ℕ) × (g.next m z ≡ Some m') × (g.number n' ≤ g.number m')
  -- and what reaches the better one, where the worse one steps to, is no worse than that step
  pub loop : (m n z n' k : ℕ) → net.router (g.place n) ≡ true → AtLeast g m n → net.router z ≡ true → g.next n z ≡ Some n' → k < g.nodes → g.place k ≡ z → Reaches g k m → g.number n' ≤ g.number k

-- the ranks that a policy gives to walks, those of nodes, and the sources for which ranks count
pub record Ranks : Type 0 where
  -- the rank of a path from a source, where the policy permits it
  pub of_path : List ℕ → Option ℕ
  pub of_node : ℕ → Option ℕ
  pub source : ℕ → Bool

-- what ranks keep
pub record MeetsRanks (net : Network) (g : Graph) (k : Ranks) : Type 0 where
  -- a path with a rank has a run
  pub has_run : (p : List ℕ) (i : ℕ) → k.of_path p ≡ Some i → (n : ℕ) × (run g p ≡ Some n)
  -- and the last node of a run at a source has the rank of its path
  pub same_rank : (v : ℕ) (rest : List ℕ) (n : ℕ) → k.source v ≡ true → run g (v ∷ rest) ≡ Some n → k.of_node n ≡ k.of_path (v ∷ rest)
  -- the rank rule: of two nodes at a source the better one has no worse a rank
  pub ranks : (m n i : ℕ) → net.router (g.place n) ≡ true → k.source (g.place n) ≡ true → AtLeast g m n → k.of_node n ≡ Some i → (j : ℕ) × (k.of_node m ≡ Some j) × (j ≤ i)
  -- the listener rule: of two nodes at a router the better one steps to a peer where the worse one does, and to no worse a rank
  pub listeners : (m n p l i : ℕ) → net.router (g.place n) ≡ true → AtLeast g m n → net.router p ≡ false → g.next n p ≡ Some l → k.of_node l ≡ Some i
      → (h j : ℕ) × (g.next m p ≡ Some h) × (k.of_node h ≡ Some j) × (j ≤ i)
