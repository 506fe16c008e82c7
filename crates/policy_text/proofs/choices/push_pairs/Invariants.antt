use Rattle.std.proofs.Common.{◌≡◌, ◌++◌, map, take}
use Rattle.std.specs.List.{flat_map}
use Rattle.policy_text.specs.Choices.{pair_text}
use Rattle.policy_text.proofs.choices.push_pairs.Given as goal

abbrev pub invariant-loop-one : goal.invariant-loop-one
invariant-loop-one l = l.texts.items ≡ l.initial.texts.items ++ flat_map (λ one. map (pair_text l.is_bracketed one) l.others) (take l.one-index l.ones)
