use Rattle.std.proofs.Common.{◌≡◌, ◌++◌, drop}
use Rattle.policy_lint.specs.Groups.{group_names}
use Rattle.policy_lint.proofs.groups.group_names.Given as goal

abbrev pub invariant-loop-i : goal.invariant-loop-i
invariant-loop-i l = l.names.items ++ group_names l.bytes (drop l.i l.tokens) ≡ group_names l.bytes l.tokens
