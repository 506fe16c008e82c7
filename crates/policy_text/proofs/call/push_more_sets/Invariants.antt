use Rattle.std.proofs.Common.{◌≡◌, ◌++◌, take}
use Rattle.std.specs.List.{AllByRecursion, flat_map}
use Rattle.policy_text.specs.PolicyText.{next_set}
use Rattle.policy_text.specs.Values.{IsLocSet}
use Rattle.policy_text.proofs.call.push_more_sets.Given as goal

abbrev pub invariant-loop-set : goal.invariant-loop-set
invariant-loop-set l =
    (l.text.items ≡ l.initial.text.items ++ flat_map (next_set l.net) (take l.set-index l.sets)) × AllByRecursion IsLocSet (take l.set-index l.sets)
