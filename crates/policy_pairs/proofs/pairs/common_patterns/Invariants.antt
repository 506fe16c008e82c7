use Rattle.std.proofs.Common.{◌≡◌, map, take}
use Rattle.policy_base.specs.Policies.{PlainPolicy}
use Rattle.policy_pairs.specs.Groups.{TellBoth}
use Rattle.policy_pairs.specs.Pairs.{common_pattern}
use Rattle.policy_pairs.proofs.pairs.common_patterns.Given as goal

abbrev pub invariant-loop-prefix : goal.invariant-loop-prefix
invariant-loop-prefix l = (old new : PlainPolicy) → TellBoth l.both old new → l.patterns ≡ map (common_pattern old new) (take l.prefix-index l.prefixes)
