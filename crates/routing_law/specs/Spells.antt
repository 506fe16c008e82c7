-- A configuration whose lines are those of a graph: the meeting point of the two.
use Rattle.std.specs.Prelude.{ℕ, ◌≡◌, ◌<◌, true, false, Some}
use Rattle.routing_law.specs.Graph.{Graph, WellFormed}
use Rattle.routing_law.specs.Lines.{Lines, Tag}
use Rattle.routing_law.specs.Network.{Network}

-- a step of the node n at u to the node m at v
pub record StepOver (g : Graph) (u v n m : ℕ) : Type 0 where
  pub node : n < g.nodes
  pub place : g.place n ≡ u
  pub step : g.next n v ≡ Some m

-- each step has its line, and each line its step
pub record Spells (net : Network) (g : Graph) (tag : ℕ → Tag) (c : Lines) : Type 0 where
  pub own : (v s : ℕ) → net.router v ≡ true → g.start v ≡ Some s → c.own v ≡ tag s
  pub exports : (u v n m : ℕ) → net.router u ≡ true → StepOver g u v n m → c.exported u v (tag n) ≡ true
  pub exports_only : (u v : ℕ) (t : Tag) → net.router u ≡ true → c.exported u v t ≡ true → (n m : ℕ) × StepOver g u v n m × (tag n ≡ t)
  pub imports : (u v n m : ℕ) → net.router u ≡ true → net.router v ≡ true → StepOver g u v n m → c.imported v u (tag n) ≡ Some (tag m, g.number m)
  pub imports_only : (u v : ℕ) (t : Tag) (q : Tag × ℕ) → net.router u ≡ true → net.router v ≡ true → c.imported v u t ≡ Some q
      → (n m : ℕ) × StepOver g u v n m × (tag n ≡ t) × (q ≡ (tag m, g.number m))
  pub peers : (u v n m : ℕ) → net.router u ≡ false → net.router v ≡ true → StepOver g u v n m → c.from_peer v u ≡ Some (tag m, g.number m)
  pub peers_only : (u v : ℕ) (q : Tag × ℕ) → net.router u ≡ false → net.router v ≡ true → c.from_peer v u ≡ Some q → (n m : ℕ) × StepOver g u v n m × (q ≡ (tag m, g.number m))

-- the tags of a router's nodes differ
abbrev pub TagsDiffer : Network → Graph → (ℕ → Tag) → Type 0
TagsDiffer net g tag = (m n : ℕ) → m < g.nodes → n < g.nodes → net.router (g.place m) ≡ true → g.place m ≡ g.place n → tag m ≡ tag n → m ≡ n

-- the lines were made of a graph that is well formed, with tags that differ
pub record Written (net : Network) (g : Graph) (tag : ℕ → Tag) (c : Lines) : Type 0 where
  pub formed : WellFormed net g
  pub tags : TagsDiffer net g tag
  pub lines : Spells net g tag c
