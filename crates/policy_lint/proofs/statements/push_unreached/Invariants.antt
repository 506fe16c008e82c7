use Rattle.std.proofs.Common.{◌≡◌, ◌+◌, ◌++◌, drop, map}
use Rattle.policy_base.specs.Policies.{plain_statement}
use Rattle.policy_lint.specs.Told.{told_from}
use Rattle.policy_lint.proofs.statements.push_unreached.Given as goal

abbrev pub invariant-loop-place : goal.invariant-loop-place
invariant-loop-place l =
    l.findings.items ++ told_from l.ranks l.have (l.place + 1) (drop l.place (map plain_statement l.statements)) ≡ l.fn.findings.items ++ told_from l.ranks l.have 1 (map plain_statement l.statements)
