use Rattle.std.proofs.Common.{◌≡◌, None, Some, false}
use Rattle.std.specs.Prelude.{slice_get}
use Rattle.indexmap.specs.IndexMap.{get}
use Rattle.first_patterns.specs.declared.table.Head.{Head}
use Rattle.first_patterns.specs.Tables.{least_place, same_head}
use Rattle.first_patterns.proofs.table.least_under.Given as goal

abbrev pub invariant-loop-len : goal.invariant-loop-len
invariant-loop-len l = ((h : Head) → slice_get l.lengths h.len ≡ Some false → get same_head l.places h ≡ None) → l.first ≡ least_place (get same_head l.places) l.prefix l.len
