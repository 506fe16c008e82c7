use Rattle.std.proofs.Common.{◌<◌, ℕ}
use Rattle.graph_base.specs.Runs.{place_of}
use Rattle.state_simulation.proofs.maps.location_count.Given as goal

abbrev pub invariant-loop-node : goal.invariant-loop-node
invariant-loop-node l = (n : ℕ) → n < l.node → place_of l.graph n < l.count
