use Rattle.std.proofs.Common.{◌≡◌, ◌++◌, map, take}
use Rattle.free_tags.specs.Taken.{tag_of_export}
use Rattle.free_tags.proofs.taken.add_exports.Given as goal

abbrev pub invariant-loop-export : goal.invariant-loop-export
invariant-loop-export l = l.tags.items ≡ l.initial.tags.items ++ map tag_of_export (take l.export-index l.exports)
