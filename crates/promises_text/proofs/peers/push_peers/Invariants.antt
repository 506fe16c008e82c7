use Rattle.std.proofs.Common.{◌≡◌, ◌++◌}
use Rattle.std.specs.List.{flat_map}
use Rattle.net_base.specs.Locations.{numbers_below}
use Rattle.policy_base.specs.Policies.{policy_of}
use Rattle.promises_text.specs.Texts.{named_peer}
use Rattle.promises_text.proofs.peers.push_peers.Given as goal

abbrev pub invariant-loop-place : goal.invariant-loop-place
invariant-loop-place l = l.text.items ≡ l.initial.text.items ++ flat_map (named_peer l.net (policy_of l.policy) l.number) (numbers_below l.place)
