use Rattle.std.proofs.Common.{◌≡◌, ◌||◌, ℕ, length, take}
use Rattle.bit_rows.specs.Bits.{has}
use Rattle.reach_prune.specs.Searches.{is_among}
use Rattle.state_simulation.proofs.masks.set_each.Given as goal

abbrev pub invariant-loop-node : goal.invariant-loop-node
invariant-loop-node l = record {
  len : length l.mask ≡ length l.initial.mask;
  bits : (b : ℕ) → has l.mask b ≡ (has l.initial.mask b || is_among (take l.node-index l.nodes) b);
}
