use Rattle.std.proofs.Common.{◌≡◌, ◌≤◌, Some, None}
use Rattle.std.specs.Prelude.{if◌then◌else◌}
use Rattle.std.specs.Option.{option_or}
use Rattle.indexmap.specs.IndexMap.{get}
use Rattle.policy_base.specs.declared.fronts.Front.{Front}
use Rattle.policy_base.specs.Fronts.{same_front}
use Rattle.policy_base.proofs.FrontLemmas.{has_front_below}
use Rattle.policy_base.proofs.fronts.note_pattern.Given as goal

abbrev pub invariant-loop-of : goal.invariant-loop-of
invariant-loop-of l = record {
  from : l.fn.pattern.base.len ≤ l.of;
  noted :
      (f : Front)
      → get same_front l.numbers f ≡ option_or (get same_front l.initial.numbers f) (if has_front_below l.of f l.fn.pattern then Some l.number else None);
}
