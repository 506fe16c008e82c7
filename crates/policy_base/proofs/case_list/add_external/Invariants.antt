use Rattle.std.proofs.Common.{◌≡◌, ◌≤◌, ◌+◌, ◌++◌, drop, map, length}
use Rattle.policy_base.specs.Policies.{policy_of, plain_statement}
use Rattle.policy_base.specs.Cases.{external_cases}
use Rattle.policy_base.proofs.case_list.add_external.Given as goal

abbrev pub invariant-loop-i : goal.invariant-loop-i
invariant-loop-i l = record {
  few : length l.statements ≤ 256;
  rest :
      l.initial.cases.items ++ external_cases l.net (policy_of l.policy) 1 (map plain_statement l.statements)
      ≡ l.cases.items ++ external_cases l.net (policy_of l.policy) (l.i + 1) (map plain_statement (drop l.i l.statements));
}
