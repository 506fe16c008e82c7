use Rattle.std.proofs.Common.{◌≡◌, ◌+◌, drop}
use Rattle.std.specs.Option.{option_or}
use Rattle.indexmap.specs.IndexMap.{get}
use Rattle.first_patterns.specs.declared.table.Head.{Head}
use Rattle.first_patterns.specs.Firsts.{first_place}
use Rattle.first_patterns.specs.Tables.{has_head, same_head}
use Rattle.first_patterns.proofs.table.places_of.Given as goal

abbrev pub invariant-loop-i : goal.invariant-loop-i
invariant-loop-i l =
    (h : Head) → first_place (has_head h) l.patterns 1 ≡ option_or (get same_head l.places h) (first_place (has_head h) (drop l.i l.patterns) (l.i + 1))
