-- A graph over a network, start by start, node by node and step by step.
use Rattle.std.specs.Prelude.{ℕ, ◌<◌, Bool, not, ◌&&◌, ◌||◌, IsTrue, length}
use Rattle.std.proofs.Math.Bool.{beq}
use Rattle.std.specs.List.{All}
use Rattle.net_base.specs.Network.{PlainNet, is_peer, is_router, linked}
use Rattle.graph_base.specs.Graphs.{PlainGraph}
use Rattle.graph_base.specs.Runs.{place_of, is_listener, is_start, Reaches}

-- a node at an origin is a start, and one hears exactly where it's at a peer and no start
unfoldable pub node_fits : PlainNet → (ℕ → Bool) → PlainGraph → ℕ → Bool
node_fits net origin g n = (is_start g n || not (origin (place_of g n))) && beq (is_listener g n) (is_peer net (place_of g n) && not (is_start g n))

-- a step goes over a link, from a start or a router, to a node that is no start, and to a peer only where the origins are routers
unfoldable pub step_fits : PlainNet → Bool → PlainGraph → ℕ × ℕ → Bool
step_fits net external g s =
    linked net (place_of g s.0) (place_of g s.1) && not (is_start g s.1) && (is_start g s.0 || is_router net (place_of g s.0)) && not (external && is_peer net (place_of g s.1))

abbrev pub StartsFit : (ℕ → Bool) → PlainGraph → Type 0
StartsFit origin g = All (λ s. IsTrue (origin (place_of g s))) g.starts

abbrev pub NodesFit : PlainNet → (ℕ → Bool) → PlainGraph → Type 0
NodesFit net origin g = (n : ℕ) → n < length g.nodes → IsTrue (node_fits net origin g n)

abbrev pub StepsFit : PlainNet → Bool → PlainGraph → Type 0
StepsFit net external g = All (λ s. IsTrue (step_fits net external g s)) g.steps

-- steps lead to the node from a start
abbrev pub CanBeReached : PlainGraph → ℕ → Type 0
CanBeReached g n = (a : ℕ) × IsTrue (is_start g a) × Reaches g a n
