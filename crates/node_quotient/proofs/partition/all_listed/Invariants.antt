use Rattle.std.proofs.Common.{◌≡◌, ℕ, take}
use Rattle.reach_prune.specs.Searches.{is_among}
use Rattle.node_quotient.specs.Splits.{is_hit}
use Rattle.node_quotient.proofs.partition.all_listed.Given as goal

abbrev pub invariant-loop-node : goal.invariant-loop-node
invariant-loop-node l = (m : ℕ) → is_among l.all.items m ≡ is_hit l.lists (take l.node-index l.nodes) m
