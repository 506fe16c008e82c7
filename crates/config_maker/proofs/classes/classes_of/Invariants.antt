use Rattle.std.proofs.Common.{◌≡◌, map, take}
use Rattle.policy_base.specs.Policies.{policy_of}
use Rattle.evidence_base.specs.Made.{PlainCaseEvidence, patterns_of}
use Rattle.config_maker.proofs.classes.classes_of.Given as goal

abbrev pub invariant-loop-case : goal.invariant-loop-case
invariant-loop-case l = l.classes ≡ map (λ (c : PlainCaseEvidence). patterns_of (policy_of l.policy) c.case) (take l.case-index l.evidence)
