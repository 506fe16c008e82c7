use Rattle.policy_base.specs.Policies.{policy_of}
use Rattle.evidence_base.proofs.Classing.{IsPast}
use Rattle.evidence_base.proofs.belonging.place_of.Given as goal

abbrev pub invariant-loop-i : goal.invariant-loop-i
invariant-loop-i l = IsPast (policy_of l.policy) l.prefix l.cases l.i
