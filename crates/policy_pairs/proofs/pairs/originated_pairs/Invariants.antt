use Rattle.std.proofs.Common.{◌≡◌, map, take}
use Rattle.policy_pairs.specs.Groups.{originated_pair}
use Rattle.policy_pairs.proofs.pairs.originated_pairs.Given as goal

abbrev pub invariant-loop-group : goal.invariant-loop-group
invariant-loop-group l = l.pairs ≡ map originated_pair (take l.group-index l.group-items)
