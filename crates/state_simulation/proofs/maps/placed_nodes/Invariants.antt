use Rattle.std.proofs.Common.{◌≡◌, ℕ, ◌&&◌, ◌==◌, nat_lt}
use Rattle.graph_base.specs.Runs.{place_of}
use Rattle.relation_law.specs.Rounds.{is_in}
use Rattle.state_simulation.proofs.maps.placed_nodes.Given as goal

abbrev pub invariant-loop-node : goal.invariant-loop-node
invariant-loop-node l = (p n : ℕ) → is_in l.placed.items p n ≡ (nat_lt n l.node && place_of l.graph n == p)
