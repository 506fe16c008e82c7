use Rattle.std.proofs.Common.{◌≡◌, drop, map}
use Rattle.policy_base.specs.declared.call.Call.TheVariants.{Of}
use Rattle.policy_base.specs.Meaning.{meets, some_test}
use Rattle.policy_base.proofs.rank.meets_any.Given as goal

abbrev pub invariant-loop-set : goal.invariant-loop-set
invariant-loop-set l =
    some_test (map (meets l.net) (map (Of l.call) l.sets)) l.path ≡ some_test (map (meets l.net) (map (Of l.call) (drop l.set-index l.sets))) l.path
