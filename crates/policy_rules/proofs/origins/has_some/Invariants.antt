use Rattle.std.proofs.Common.{◌≡◌, ◌+◌, ◌-◌}
use Rattle.policy_rules.specs.Origins.{has_some}
use Rattle.policy_rules.proofs.origins.has_some.Given as goal

abbrev pub invariant-loop-number : goal.invariant-loop-number
invariant-loop-number l = has_some l.set l.number (l.first + l.count - l.number) ≡ has_some l.set l.first l.count
