use Rattle.std.proofs.Common.{List, take}
use Rattle.net_base.specs.declared.numbers.Tag.{Tag}
use Rattle.free_tags.specs.Reached.{LeavesFree}
use Rattle.evidence_renewal.specs.Renewed.{AreRenewedCases}
use Rattle.evidence_renewal.proofs.renew.renewed_cases.Given as goal

abbrev pub invariant-loop-place : goal.invariant-loop-place
invariant-loop-place l = record {
  renewed : (taken : List Tag) → LeavesFree taken l.initial.free → AreRenewedCases taken l.by (take l.place l.cases) l.all;
  kept : (taken : List Tag) → LeavesFree taken l.initial.free → LeavesFree taken l.free;
}
