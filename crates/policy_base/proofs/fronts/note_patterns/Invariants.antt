use Rattle.std.proofs.Common.{◌≡◌, Some, None, take}
use Rattle.std.specs.Prelude.{if◌then◌else◌}
use Rattle.std.specs.List.{list_any}
use Rattle.std.specs.Option.{option_or}
use Rattle.indexmap.specs.IndexMap.{get}
use Rattle.policy_base.specs.declared.fronts.Front.{Front}
use Rattle.policy_base.specs.Fronts.{same_front, has_front}
use Rattle.policy_base.proofs.fronts.note_patterns.Given as goal

abbrev pub invariant-loop-pattern : goal.invariant-loop-pattern
invariant-loop-pattern l =
    (f : Front)
    → get same_front l.numbers f
    ≡ option_or (get same_front l.initial.numbers f) (if list_any (has_front f) (take l.pattern-index l.patterns) then Some l.number else None)
