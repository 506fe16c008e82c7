use Rattle.std.proofs.Common.{◌≡◌, map, take}
use Rattle.policy_base.specs.Policies.{PlainPolicy}
use Rattle.policy_pairs.specs.Groups.{AreKinds, TellBoth, group_for}
use Rattle.policy_pairs.proofs.groups.grouped.Given as goal

abbrev pub invariant-loop-prefix : goal.invariant-loop-prefix
invariant-loop-prefix l =
    (old new : PlainPolicy) → TellBoth l.both old new
    → AreKinds old new (take l.prefix-index l.prefixes) l.kinds.keys × (l.groups.items ≡ map (group_for old new (take l.prefix-index l.prefixes)) l.kinds.keys)
