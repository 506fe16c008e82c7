use Rattle.std.proofs.Common.{◌≡◌, drop}
use Rattle.policy_base.specs.Walks.{is_loop_free}
use Rattle.policy_base.proofs.walk.is_loop_free.Given as goal

abbrev pub invariant-loop-i : goal.invariant-loop-i
invariant-loop-i l = is_loop_free l.path ≡ is_loop_free (drop l.i l.path)
