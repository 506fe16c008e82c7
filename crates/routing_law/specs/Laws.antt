-- The laws: first of the lines of a configuration, then of the graph.
use Rattle.std.specs.Prelude.{ℕ, ◌≡◌, ◌≤◌, ◌<◌, true, false, List, ◌∷◌, ◌++◌, Some}
use Rattle.routing_law.specs.Graph.{Graph, MeetsRanks, MeetsRules, Ranks, WellFormed, run}
use Rattle.routing_law.specs.Lines.{LineRoute, LineRoutes, Lines, LinesFullyStable, LinesStable, Tag, offered}
use Rattle.routing_law.specs.Network.{NamesDiffer, Network, loop_free, stands_on, survives}
use Rattle.routing_law.specs.Outcome.{FullyStable, ReachedAt, Route, Routes, SameRoutes, Setup, Stable, with_nodes, with_tags}
use Rattle.routing_law.specs.Spells.{Written}

-- the path of v's route has no loop, survives, and runs to a node whose tag and number the route has
pub record GoodRoute (w : Setup) (tag : ℕ → Tag) (v : ℕ) (x : LineRoute) : Type 0 where
  pub rest : List ℕ
  pub begins : x.path ≡ v ∷ rest
  pub free : loop_free x.path ≡ true
  pub lives : survives w.alive x.path ≡ true
  pub node : ℕ
  pub runs : run w.graph x.path ≡ Some node
  pub tag_is : x.tag ≡ tag node
  pub pref_is : x.pref ≡ w.graph.number node

-- a path that u offers to p has no loop, survives, and has a run
pub record GoodOffer (w : Setup) (u p : ℕ) (q : List ℕ) : Type 0 where
  pub rest : List ℕ
  pub begins : q ≡ p ∷ u ∷ rest
  pub free : loop_free q ≡ true
  pub lives : survives w.alive q ≡ true
  pub node : ℕ
  pub runs : run w.graph q ≡ Some node

pub record UsedPaths (w : Setup) (tag : ℕ → Tag) (c : Lines) (r : LineRoutes) : Type 0 where
  pub routes : (v : ℕ) (x : LineRoute) → w.net.router v ≡ true → w.net.origin v ≡ false → r v ≡ Some x → GoodRoute w tag v x
  pub offers : (u p : ℕ) (q : List ℕ) → w.net.router u ≡ true → w.alive.live p ≡ true → offered w.alive c r u p ≡ Some q → GoodOffer w u p q

-- Whatever the numbers are, each route that is used and each path that is offered is good.
abbrev pub UsedPathsAreSound : Type 0
UsedPathsAreSound = (w : Setup) (tag : ℕ → Tag) (c : Lines) (r : LineRoutes) → Written w.net w.graph tag c → LinesStable w.net w.alive c r → UsedPaths w tag c r

pub record GreatestNumbers (w : Setup) (tag : ℕ → Tag) (r : LineRoutes) : Type 0 where
  -- no node that is reached at a router has a higher number than its route, and it has one where some node is reached
  pub over : (v n : ℕ) → w.net.router v ≡ true → w.net.origin v ≡ false → ReachedAt w v n → (x : LineRoute) × (r v ≡ Some x) × (w.graph.number n ≤ x.pref)
  -- and the node of a route is reached
  pub reached : (v : ℕ) (x : LineRoute) → w.net.router v ≡ true → w.net.origin v ≡ false → r v ≡ Some x → (n : ℕ) × ReachedAt w v n × (x.tag ≡ tag n) × (x.pref ≡ w.graph.number n)

-- Under the step rule and the loop rule a router's preference is the greatest number of the nodes that are reached at it.
abbrev pub NumberIsGreatest : Type 0
NumberIsGreatest = (w : Setup) (tag : ℕ → Tag) (c : Lines) (r : LineRoutes) → Written w.net w.graph tag c → MeetsRules w.net w.graph → LinesStable w.net w.alive c r → GreatestNumbers w tag r

pub record BestPaths (w : Setup) (k : Ranks) (c : Lines) (r : LineRoutes) : Type 0 where
  -- where a path with a rank survives from a router that is a source, it has a route of no worse a rank
  pub routers : (v : ℕ) (rest : List ℕ) (i : ℕ) → w.net.router v ≡ true → w.net.origin v ≡ false → k.source v ≡ true → k.of_path (v ∷ rest) ≡ Some i → survives w.alive (v ∷ rest) ≡ true
      → (x : LineRoute) × (j : ℕ) × (r v ≡ Some x) × (k.of_path x.path ≡ Some j) × (j ≤ i)
  -- and where one survives from a peer that is a source over its session with u, u offers one of no worse a rank
  pub sessions : (u p : ℕ) (rest : List ℕ) (i : ℕ) → w.net.router u ≡ true → w.net.router p ≡ false → w.net.origin p ≡ false → k.source p ≡ true
      → k.of_path (p ∷ u ∷ rest) ≡ Some i → survives w.alive (p ∷ u ∷ rest) ≡ true
      → (q : List ℕ) × (j : ℕ) × (offered w.alive c r u p ≡ Some q) × (k.of_path q ≡ Some j) × (j ≤ i)

-- Under all rules every source gets the best rank that survives, and gets none only where none survives.
abbrev pub LinesAreRight : Type 0
LinesAreRight =
    (w : Setup) (tag : ℕ → Tag) (k : Ranks) (c : Lines) (r : LineRoutes) → Written w.net w.graph tag c → MeetsRules w.net w.graph
    → MeetsRanks w.net w.graph k → LinesStable w.net w.alive c r → BestPaths w k c r

-- Whatever fails, there is an outcome with ties broken.
abbrev pub OutcomeExists : Type 0
OutcomeExists = (w : Setup) (tag : ℕ → Tag) (c : Lines) → Written w.net w.graph tag c → MeetsRules w.net w.graph → (r : LineRoutes) × LinesFullyStable w.net w.alive c r

-- And any two give each router the same.
abbrev pub OutcomeIsUnique : Type 0
OutcomeIsUnique =
    (w : Setup) (tag : ℕ → Tag) (c : Lines) (r s : LineRoutes) → NamesDiffer w.net → Written w.net w.graph tag c → MeetsRules w.net w.graph
    → LinesFullyStable w.net w.alive c r → LinesFullyStable w.net w.alive c s → (v : ℕ) → w.net.router v ≡ true → r v ≡ s v

-- Tags differ, so lines and steps say the same: a stable outcome of the lines is one of the graph.
abbrev pub LinesAreGraph : Type 0
LinesAreGraph = (w : Setup) (tag : ℕ → Tag) (c : Lines) (r : LineRoutes) → Written w.net w.graph tag c → LinesStable w.net w.alive c r → Stable w (with_nodes w r) × SameRoutes w tag r (with_nodes w r)

-- And an outcome of the graph with ties broken is one of the lines.
abbrev pub GraphIsLines : Type 0
GraphIsLines = (w : Setup) (tag : ℕ → Tag) (c : Lines) (s : Routes) → Written w.net w.graph tag c → FullyStable w s → LinesFullyStable w.net w.alive c (with_tags w tag c s)

-- A router's route is exported only where its node steps on,
abbrev pub ExportsAreSteps : Type 0
ExportsAreSteps =
    (net : Network) (g : Graph) (tag : ℕ → Tag) (c : Lines) → Written net g tag c → (u v n : ℕ) (rest : List ℕ) → net.router u ≡ true
    → run g (u ∷ rest) ≡ Some n → c.exported u v (tag n) ≡ true → (m : ℕ) × (g.next n v ≡ Some m)

-- an import line gives it the tag and the number of the next node,
abbrev pub ImportsAreSteps : Type 0
ImportsAreSteps =
    (net : Network) (g : Graph) (tag : ℕ → Tag) (c : Lines) → Written net g tag c → (u v n : ℕ) (rest : List ℕ) (q : Tag × ℕ) → net.router u ≡ true
    → net.router v ≡ true → run g (u ∷ rest) ≡ Some n → c.imported v u (tag n) ≡ Some q
    → (m : ℕ) × (g.next n v ≡ Some m) × (q ≡ (tag m, g.number m))

-- an origin's own route is exported only where it has a start, whose tag it has,
abbrev pub OwnRoutesAreStarts : Type 0
OwnRoutesAreStarts =
    (net : Network) (g : Graph) (tag : ℕ → Tag) (c : Lines) → Written net g tag c → (u v : ℕ) → net.router u ≡ true → net.origin u ≡ true
    → c.exported u v (c.own u) ≡ true → (s : ℕ) × (g.start u ≡ Some s) × (c.own u ≡ tag s)

-- and what a peer announces is a start that steps on.
abbrev pub AnnouncementsAreSteps : Type 0
AnnouncementsAreSteps =
    (net : Network) (g : Graph) (tag : ℕ → Tag) (c : Lines) → Written net g tag c → (u v : ℕ) (q : Tag × ℕ) → net.router u ≡ false
    → net.router v ≡ true → net.origin u ≡ true → c.from_peer v u ≡ Some q
    → (s m : ℕ) × (g.start u ≡ Some s) × (g.next s v ≡ Some m) × (q ≡ (tag m, g.number m))

-- what holds of the route of v in the graph
pub record Sound (w : Setup) (r : Routes) (v : ℕ) (x : Route) : Type 0 where
  pub rest : List ℕ
  pub begins : x.path ≡ v ∷ rest
  pub free : loop_free x.path ≡ true
  pub lives : survives w.alive x.path ≡ true
  pub runs : run w.graph x.path ≡ Some x.node
  -- each suffix is the path of the location at which it begins
  pub suffixes : (front back : List ℕ) (u : ℕ) → x.path ≡ front ++ u ∷ back → (m : ℕ) × (r u ≡ Some (record { path = u ∷ back; node = m }))

-- Each path has no loop, survives and runs to its node, and routers on it use what is left of it.
abbrev pub GraphPathsAreSound : Type 0
GraphPathsAreSound = (w : Setup) (r : Routes) → Stable w r → (v : ℕ) (x : Route) → r v ≡ Some x → Sound w r v x

-- The number of a router's node is the greatest of all that are reached at it.
abbrev pub GraphNumberIsGreatest : Type 0
GraphNumberIsGreatest =
    (w : Setup) (r : Routes) → WellFormed w.net w.graph → MeetsRules w.net w.graph → Stable w r → (v n : ℕ) → w.net.router v ≡ true → ReachedAt w v n
    → (x : Route) × (r v ≡ Some x) × (w.graph.number n ≤ w.graph.number x.node)

-- The node of a route is reached.
abbrev pub GraphNodeIsReached : Type 0
GraphNodeIsReached = (w : Setup) (r : Routes) → Stable w r → (v : ℕ) (x : Route) → r v ≡ Some x → ReachedAt w v x.node

-- A router that is a source has the best rank that survives.
abbrev pub RankIsBest : Type 0
RankIsBest = (w : Setup) (k : Ranks) (r : Routes) → WellFormed w.net w.graph → MeetsRules w.net w.graph → MeetsRanks w.net w.graph k → Stable w r
    → (v : ℕ) (rest : List ℕ) (i : ℕ) → w.net.router v ≡ true → k.source v ≡ true → k.of_path (v ∷ rest) ≡ Some i → survives w.alive (v ∷ rest) ≡ true
    → (x : Route) × (j : ℕ) × (r v ≡ Some x) × (k.of_path x.path ≡ Some j) × (j ≤ i)

-- The route of u, with the peer p in front, has the best rank that survives over their session, and p isn't on it.
abbrev pub OfferIsBest : Type 0
OfferIsBest = (w : Setup) (k : Ranks) (r : Routes) → WellFormed w.net w.graph → MeetsRules w.net w.graph → MeetsRanks w.net w.graph k → Stable w r
    → (u p : ℕ) (rest : List ℕ) (i : ℕ) → w.net.router u ≡ true → w.net.router p ≡ false → w.net.origin p ≡ false → k.source p ≡ true
    → k.of_path (p ∷ u ∷ rest) ≡ Some i → survives w.alive (u ∷ rest) ≡ true
    → (x : Route) × (h j : ℕ) × (r u ≡ Some x) × (w.graph.next x.node p ≡ Some h) × (stands_on p x.path ≡ false) × (k.of_path (p ∷ x.path) ≡ Some j) × (j ≤ i)

abbrev pub GraphOutcomeExists : Type 0
GraphOutcomeExists = (w : Setup) → WellFormed w.net w.graph → MeetsRules w.net w.graph → (r : Routes) × FullyStable w r

abbrev pub GraphOutcomeIsUnique : Type 0
GraphOutcomeIsUnique = (w : Setup) (r s : Routes) → NamesDiffer w.net → WellFormed w.net w.graph → MeetsRules w.net w.graph → FullyStable w r → FullyStable w s → (v : ℕ) → r v ≡ s v

-- Where each location has at most one node, and all numbers are the same, the rules hold: they can be met.
abbrev pub PlainNumbersPass : Type 0
PlainNumbersPass = (net : Network) (g : Graph) → ((m n : ℕ) → m < g.nodes → n < g.nodes → g.place m ≡ g.place n → m ≡ n) → ((m n : ℕ) → g.number m ≡ g.number n) → MeetsRules net g
