use Rattle.std.proofs.Common.{◌≡◌, map, max, take}
use Rattle.std.specs.List.{fold}
use Rattle.free_tags.specs.Taken.{pref_of_import}
use Rattle.free_tags.proofs.taken.top_of_imports.Given as goal

abbrev pub invariant-loop-import : goal.invariant-loop-import
invariant-loop-import l = l.most ≡ fold max l.top (map pref_of_import (take l.import-index l.imports))
