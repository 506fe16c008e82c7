use Rattle.std.proofs.Common.{ℕ, IsTrue, not, take}
use Rattle.reach_prune.specs.Searches.{is_among}
use Rattle.relation_refute.specs.Cells.{are_parted}
use Rattle.relation_refute.proofs.parted.has_parted.Given as goal

abbrev pub invariant-loop-m : goal.invariant-loop-m
invariant-loop-m l = (m : ℕ) → IsTrue (is_among (take l.m-index l.m-items) m) → IsTrue (not (are_parted l.cells m l.n))
