use Rattle.std.proofs.Common.{◌≡◌, ◌<◌, ℕ, false}
use Rattle.relation_refute.specs.Faults.{loops_there}
use Rattle.relation_refute.proofs.faults.looping.Given as goal

abbrev pub invariant-loop-k : goal.invariant-loop-k
invariant-loop-k l = (j : ℕ) → j < l.k → loops_there l.maps.graph.now l.fallen l.round l.m l.t j ≡ false
