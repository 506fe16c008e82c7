use Rattle.std.proofs.Common.{◌≡◌, ◌++◌, map, take}
use Rattle.policy_base.specs.declared.call.Call.TheVariants.{Of}
use Rattle.policy_text.specs.PolicyText.{call_text}
use Rattle.policy_text.proofs.choices.push_set_calls.Given as goal

abbrev pub invariant-loop-set : goal.invariant-loop-set
invariant-loop-set l = l.texts.items ≡ l.initial.texts.items ++ map (call_text l.net) (map (Of l.call) (take l.set-index l.sets))
