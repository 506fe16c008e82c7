use Rattle.std.proofs.Common.{◌≡◌, ◌+◌, ℕ, length, map, take, vec_len}
use Rattle.std.specs.List.{flat_map}
use Rattle.walk_states.specs.Growth.{ways_in}
use Rattle.walk_states.proofs.WayLists.{link_ways}
use Rattle.walk_states.proofs.neighbours.all_ways.Given as goal

abbrev pub invariant-loop-link : goal.invariant-loop-link
invariant-loop-link l = record {
  added : (at : ℕ) → ways_in (map (λ v. v.items) l.ways.items) at ≡ flat_map (link_ways l.net l.case at) (take l.link-index l.net.links);
  len : vec_len l.ways ≡ length l.net.routers + length l.net.peers;
}
