use Rattle.std.proofs.Common.{◌≡◌, ◌<◌, ◌&&◌, ℕ, false}
use Rattle.relation_law.specs.Rounds.{same_place}
use Rattle.relation_refute.specs.Cells.{are_parted}
use Rattle.state_simulation.specs.Looked.{shown}
use Rattle.relation_refute.proofs.parted.least_parted.Given as goal

abbrev pub invariant-loop-m : goal.invariant-loop-m
invariant-loop-m l = (j : ℕ) → j < l.m → (same_place (shown l.maps.graph.now) j l.n && are_parted l.cells j l.n) ≡ false
