use Rattle.std.proofs.Common.{sym}
use Rattle.policy_base.proofs.PlaceLemmas.{each_in-lengths}
use Rattle.policy_base.proofs.meaning.is_each_in.Goals as goal

pub returns-then-sets-path : goal.returns-then-sets-path
returns-then-sets-path c = sym (each_in-lengths c.args.sets.now c.args.path.now c.if-sets-path.true)
