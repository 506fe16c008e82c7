use Rattle.std.proofs.Common.{ℕ, IsTrue, take}
use Rattle.reach_prune.specs.Searches.{is_among}
use Rattle.preference_check.specs.Floods.{IsNoGreater}
use Rattle.preference_check.proofs.loops.are_no_greater.Given as goal

abbrev pub invariant-loop-node : goal.invariant-loop-node
invariant-loop-node l = (t : ℕ) → IsTrue (is_among (take l.node-index l.nodes) t) → IsNoGreater l.graph l.numbers l.least.least.items t
