use Rattle.std.proofs.Common.{◌≡◌, drop}
use Rattle.std.specs.Prelude.{not}
use Rattle.std.specs.List.{list_any}
use Rattle.policy_base.specs.Policies.{PlainPolicy}
use Rattle.policy_base.specs.Cases.{is_originated}
use Rattle.policy_base.specs.CaseIndex.{AreOriginated}
use Rattle.policy_base.proofs.case_list.are_originated.Given as goal

abbrev pub invariant-loop-pattern : goal.invariant-loop-pattern
invariant-loop-pattern l =
    (policy : PlainPolicy) → AreOriginated l.prefixes policy
    → list_any (λ p. not (is_originated policy p)) l.patterns ≡ list_any (λ p. not (is_originated policy p)) (drop l.pattern-index l.patterns)
