use Rattle.policy_base.specs.Policies.{policy_of}
use Rattle.case_core.specs.Automata.{AllFit}
use Rattle.evidence_check.specs.CaseFaults.{AreListed, IsLeast}
use Rattle.evidence_check.proofs.cases.cases_fault.Given as goal

abbrev pub invariant-loop-place : goal.invariant-loop-place
invariant-loop-place l = record {
  listed : AreListed l.net (policy_of l.policy) l.evidence l.place l.room;
  least : IsLeast l.net (policy_of l.policy) l.evidence l.place l.least;
  kept : AllFit l.net (policy_of l.policy) l.kept;
}
