use Rattle.std.proofs.Common.{take}
use Rattle.free_tags.specs.Free.{HaveSameTags}
use Rattle.free_tags.proofs.free.set_of.Given as goal

abbrev pub invariant-loop-tag : goal.invariant-loop-tag
invariant-loop-tag l = HaveSameTags l.set.keys (take l.tag-index l.tags)
