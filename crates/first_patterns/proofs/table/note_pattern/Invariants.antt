use Rattle.std.proofs.Common.{◌≡◌, ◌≤◌, Some, None}
use Rattle.std.specs.Prelude.{if◌then◌else◌}
use Rattle.std.specs.Option.{option_or}
use Rattle.indexmap.specs.IndexMap.{get}
use Rattle.first_patterns.specs.declared.table.Head.{Head}
use Rattle.first_patterns.specs.Tables.{same_head}
use Rattle.first_patterns.proofs.Heads.{has_head_below}
use Rattle.first_patterns.proofs.table.note_pattern.Given as goal

abbrev pub invariant-loop-of : goal.invariant-loop-of
invariant-loop-of l = record {
  from : l.fn.pattern.base.len ≤ l.of;
  noted :
      (h : Head)
      → get same_head l.places h ≡ option_or (get same_head l.initial.places h) (if has_head_below l.of h l.fn.pattern then Some l.place else None);
}
