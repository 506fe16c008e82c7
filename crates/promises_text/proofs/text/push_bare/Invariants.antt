use Rattle.std.proofs.Common.{◌≡◌, ◌++◌, take}
use Rattle.std.specs.List.{flat_map}
use Rattle.policy_base.specs.Policies.{policy_of}
use Rattle.promises_text.specs.Texts.{uncarried_prefix}
use Rattle.promises_text.proofs.text.push_bare.Given as goal

abbrev pub invariant-loop-origin : goal.invariant-loop-origin
invariant-loop-origin l = l.text.items ≡ l.initial.text.items ++ flat_map (uncarried_prefix (policy_of l.policy)) (take l.origin-index l.origins)
