use Rattle.std.proofs.Common.{◌≡◌, ◌++◌, take}
use Rattle.std.specs.List.{flat_map}
use Rattle.policy_base.specs.Policies.{policy_of}
use Rattle.promises_text.specs.Texts.{own_text}
use Rattle.promises_text.proofs.text.push_groups.Given as goal

abbrev pub invariant-loop-group : goal.invariant-loop-group
invariant-loop-group l = l.text.items ≡ l.initial.text.items ++ flat_map (own_text l.net (policy_of l.policy) l.number l.ranks) (take l.group-index l.groups)
