use Rattle.std.proofs.Common.{◌≡◌, ◌++◌, map, take}
use Rattle.free_tags.specs.Taken.{tag_of_own}
use Rattle.free_tags.proofs.taken.add_own.Given as goal

abbrev pub invariant-loop-line : goal.invariant-loop-line
invariant-loop-line l = l.tags.items ≡ l.initial.tags.items ++ map tag_of_own (take l.line-index l.own)
