use Rattle.std.proofs.Common.{◌≡◌, ◌≤◌, ◌+◌, ◌++◌, drop, map, length}
use Rattle.policy_base.specs.Policies.{plain_statement, policy_of}
use Rattle.promises_text.specs.Texts.{statements_text}
use Rattle.promises_text.proofs.text.push_statements.Given as goal

abbrev pub invariant-loop-place : goal.invariant-loop-place
invariant-loop-place l = record {
  few : length l.statements ≤ 256;
  rest :
      l.initial.text.items ++ statements_text l.net (policy_of l.policy) l.groups 1 (map plain_statement l.statements)
      ≡ l.text.items ++ statements_text l.net (policy_of l.policy) l.groups (l.place + 1) (map plain_statement (drop l.place l.statements));
}
