use Rattle.std.proofs.Common.{◌≡◌, ◌≤◌}
use Rattle.std.specs.List.{count_by}
use Rattle.net_base.specs.Locations.{numbers_below}
use Rattle.policy_base.specs.Policies.{policy_of}
use Rattle.promises_report.specs.Counting.{is_named_peer}
use Rattle.promises_report.proofs.counts.named_peers.Given as goal

abbrev pub invariant-loop-place : goal.invariant-loop-place
invariant-loop-place l = (l.count ≡ count_by (is_named_peer l.net (policy_of l.policy) l.number) (numbers_below l.place)) × (l.count ≤ l.place)
