use Rattle.std.proofs.Common.{◌≡◌, ◌+◌, ◌≤◌, ◌++◌, drop, map, length}
use Rattle.policy_base.specs.Policies.{plain_statement}
use Rattle.first_patterns.specs.Firsts.{listed}
use Rattle.first_patterns.proofs.firsts.patterns_of.Given as goal

abbrev pub invariant-loop-i : goal.invariant-loop-i
invariant-loop-i l = record {
  few : length l.statements ≤ 256;
  rest : listed (map plain_statement l.statements) 1 ≡ l.all.items ++ listed (map plain_statement (drop l.i l.statements)) (l.i + 1);
}
