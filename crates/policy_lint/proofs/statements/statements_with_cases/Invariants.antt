use Rattle.std.proofs.Common.{◌≡◌, ℕ, ◌+◌, ◌≤◌, length, take}
use Rattle.std.specs.Prelude.{◌==◌}
use Rattle.std.specs.List.{list_any}
use Rattle.policy_base.specs.declared.case.Case.{Case}
use Rattle.policy_lint.specs.Told.{marked}
use Rattle.policy_lint.proofs.statements.statements_with_cases.Given as goal

abbrev pub invariant-loop-case : goal.invariant-loop-case
invariant-loop-case l = record {
  size : length l.have.items ≡ l.statements + 1;
  marks : (n : ℕ) → n ≤ l.statements → marked l.have.items n ≡ list_any (λ (c : Case). c.statement == n) (take l.case-index l.cases);
}
