use Rattle.std.proofs.Common.{◌≡◌, ℕ, ◌+◌, length, take, vec_len}
use Rattle.std.specs.List.{list_any}
use Rattle.net_base.specs.Network.{joins}
use Rattle.location_names.specs.Neighbours.{is_held}
use Rattle.location_names.proofs.near.neighbour_sets.Given as goal

abbrev pub invariant-loop-link : goal.invariant-loop-link
invariant-loop-link l = record {
  len : vec_len l.sets ≡ length l.net.routers + length l.net.peers;
  sets : (x n : ℕ) → is_held l.sets.items x n ≡ list_any (joins x n) (take l.link-index l.link-items);
}
