use Rattle.std.proofs.Common.{◌≡◌, ◌≤◌, ◌+◌, ◌++◌, drop, map, length}
use Rattle.policy_base.specs.Policies.{plain_statement}
use Rattle.promises_report.specs.Apart.{all_apart}
use Rattle.promises_report.specs.Tables.{meet_among}
use Rattle.promises_report.proofs.apart.push_statements.Given as goal

abbrev pub invariant-loop-place : goal.invariant-loop-place
invariant-loop-place l = record {
  few : length l.statements ≤ 256;
  rest :
      l.initial.pairs.items ++ all_apart (meet_among l.net l.cases) 1 (map plain_statement l.statements)
      ≡ l.pairs.items ++ all_apart (meet_among l.net l.cases) (l.place + 1) (map plain_statement (drop l.place l.statements));
}
