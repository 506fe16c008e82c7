use Rattle.std.proofs.Common.{ℕ, IsTrue, not, take}
use Rattle.reach_prune.specs.Searches.{is_among}
use Rattle.relation_refute.specs.Faults.{hears_there}
use Rattle.relation_refute.proofs.faults.is_heard_at.Given as goal

abbrev pub invariant-loop-s : goal.invariant-loop-s
invariant-loop-s l = (s : ℕ) → IsTrue (is_among (take l.s-index l.s-items) s) → IsTrue (not (hears_there l.maps.graph.now s l.t))
