use Rattle.std.proofs.Common.{◌≡◌, drop, map}
use Rattle.policy_base.specs.declared.call.Call.TheVariants.{Of}
use Rattle.policy_base.specs.Meaning.{meets, place_of}
use Rattle.policy_base.proofs.rank.first_set.Given as goal

abbrev pub invariant-loop-i : goal.invariant-loop-i
invariant-loop-i l = place_of (map (meets l.net) (map (Of l.call) l.sets)) l.path 0 ≡ place_of (map (meets l.net) (map (Of l.call) (drop l.i l.sets))) l.path l.i
