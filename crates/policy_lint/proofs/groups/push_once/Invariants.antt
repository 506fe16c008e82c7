use Rattle.std.proofs.Common.{◌≡◌, ◌++◌, map, take}
use Rattle.std.specs.Prelude.{◌==◌, filter}
use Rattle.policy_lint.specs.declared.finding.Finding.TheVariants.{UnusedGroup}
use Rattle.policy_lint.specs.Groups.{count_of}
use Rattle.policy_lint.proofs.groups.push_once.Given as goal

abbrev pub invariant-loop-name : goal.invariant-loop-name
invariant-loop-name l = l.findings.items ≡ l.fn.findings.items ++ map UnusedGroup (filter (λ name. count_of l.counts name == 1) (take l.name-index l.names))
