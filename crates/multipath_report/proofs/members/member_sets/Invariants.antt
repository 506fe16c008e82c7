use Rattle.std.proofs.Common.{◌≡◌, ℕ, ◌+◌, length, take, vec_len}
use Rattle.std.specs.Prelude.{◌&&◌}
use Rattle.std.specs.List.{list_any}
use Rattle.net_base.specs.Network.{joins}
use Rattle.location_names.specs.Neighbours.{is_held}
use Rattle.multipath_report.specs.Members.{member_in}
use Rattle.multipath_report.proofs.members.member_sets.Given as goal

abbrev pub invariant-loop-link : goal.invariant-loop-link
invariant-loop-link l = record {
  len : vec_len l.sets ≡ length l.situation.net.now.routers + length l.situation.net.now.peers;
  sets : (x n : ℕ) → is_held l.sets.items x n ≡ (list_any (joins x n) (take l.link-index l.link-items) && member_in l.situation x n);
}
