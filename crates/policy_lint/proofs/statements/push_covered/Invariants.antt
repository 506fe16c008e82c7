use Rattle.std.proofs.Common.{◌≡◌, ◌++◌}
use Rattle.policy_lint.specs.Told.{told_covered}
use Rattle.policy_lint.proofs.statements.push_covered.Given as goal

abbrev pub invariant-loop-place : goal.invariant-loop-place
invariant-loop-place l = l.findings.items ≡ l.fn.findings.items ++ told_covered l.covered l.place
