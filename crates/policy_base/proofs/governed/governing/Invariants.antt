use Rattle.std.proofs.Common.{◌≡◌, ◌+◌, ◌≤◌, drop, map, length}
use Rattle.policy_base.specs.Policies.{plain_statement}
use Rattle.policy_base.specs.Governing.{governing_from}
use Rattle.policy_base.proofs.governed.governing.Given as goal

abbrev pub invariant-loop-i : goal.invariant-loop-i
invariant-loop-i l = record {
  few : length l.statements ≤ 256;
  rest : governing_from (map plain_statement l.statements) l.prefix 1 ≡ governing_from (map plain_statement (drop l.i l.statements)) l.prefix (l.i + 1);
}
