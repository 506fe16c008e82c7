use Rattle.std.proofs.Common.{take}
use Rattle.policy_base.specs.Policies.{policy_of}
use Rattle.promises_report.specs.Cases.{TellsCases}
use Rattle.promises_report.proofs.cases.tell_cases.Given as goal

abbrev pub invariant-loop-place : goal.invariant-loop-place
invariant-loop-place l = TellsCases l.net (policy_of l.policy) (take l.place l.cases) l.groups.items l.counts l.taking.items
