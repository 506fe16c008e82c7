use Rattle.std.proofs.Common.{◌≡◌, ◌++◌, take}
use Rattle.policy_pairs.specs.Pairs.{prefixes_of}
use Rattle.policy_pairs.proofs.pairs.push_prefixes.Given as goal

abbrev pub invariant-loop-item : goal.invariant-loop-item
invariant-loop-item l = l.prefixes.items ≡ l.initial.prefixes.items ++ prefixes_of (take l.item-index l.items)
