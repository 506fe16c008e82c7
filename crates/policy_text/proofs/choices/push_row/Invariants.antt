use Rattle.std.proofs.Common.{◌≡◌, ◌++◌, map, take}
use Rattle.policy_text.specs.Choices.{pair_text}
use Rattle.policy_text.proofs.choices.push_row.Given as goal

abbrev pub invariant-loop-other : goal.invariant-loop-other
invariant-loop-other l = l.texts.items ≡ l.initial.texts.items ++ map (pair_text l.is_bracketed l.one) (take l.other-index l.others)
