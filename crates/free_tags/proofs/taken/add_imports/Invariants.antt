use Rattle.std.proofs.Common.{◌≡◌, ◌++◌, take}
use Rattle.std.specs.List.{flat_map}
use Rattle.free_tags.specs.Taken.{tags_of_import}
use Rattle.free_tags.proofs.taken.add_imports.Given as goal

abbrev pub invariant-loop-import : goal.invariant-loop-import
invariant-loop-import l = l.tags.items ≡ l.initial.tags.items ++ flat_map tags_of_import (take l.import-index l.imports)
