use Rattle.std.proofs.Common.{◌≡◌, ◌+◌, ◌≤◌, drop, map, length}
use Rattle.std.specs.Option.{option_or}
use Rattle.indexmap.specs.IndexMap.{get}
use Rattle.policy_base.specs.declared.fronts.Front.{Front}
use Rattle.policy_base.specs.Policies.{plain_statement}
use Rattle.policy_base.specs.Fronts.{same_front, first_with_front}
use Rattle.policy_base.proofs.fronts.numbers_of.Given as goal

abbrev pub invariant-loop-i : goal.invariant-loop-i
invariant-loop-i l = record {
  few : length l.statements ≤ 256;
  rest :
      (f : Front)
      → first_with_front (map plain_statement l.statements) f 1
      ≡ option_or (get same_front l.numbers f) (first_with_front (map plain_statement (drop l.i l.statements)) f (l.i + 1));
}
