use Rattle.std.proofs.Common.{◌≡◌, drop, ◌-◌}
use Rattle.policy_base.specs.Walks.{steps_linked}
use Rattle.policy_base.proofs.walk.is_linked.Given as goal

abbrev pub invariant-loop-i : goal.invariant-loop-i
invariant-loop-i l = steps_linked l.net l.path ≡ steps_linked l.net (drop (l.i - 1) l.path)
