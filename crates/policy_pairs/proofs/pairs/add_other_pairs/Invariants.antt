use Rattle.std.proofs.Common.{◌≡◌, ◌++◌, map, take}
use Rattle.policy_base.specs.Policies.{policy_of}
use Rattle.policy_pairs.specs.Groups.{other_pair}
use Rattle.policy_pairs.proofs.pairs.add_other_pairs.Given as goal

abbrev pub invariant-loop-group : goal.invariant-loop-group
invariant-loop-group l = l.pairs ≡ l.initial.pairs ++ map (other_pair (policy_of l.old) (policy_of l.new)) (take l.group-index l.group-items)
