use Rattle.std.proofs.Common.{◌≡◌, drop}
use Rattle.policy_base.specs.Meaning.{each_in}
use Rattle.policy_base.proofs.meaning.is_each_in.Given as goal

abbrev pub invariant-loop-i : goal.invariant-loop-i
invariant-loop-i l = each_in l.sets l.path ≡ each_in (drop l.i l.sets) (drop l.i l.path)
