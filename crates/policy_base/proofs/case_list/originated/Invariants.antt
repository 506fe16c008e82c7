use Rattle.std.proofs.Common.{◌≡◌, [], drop, map}
use Rattle.policy_base.specs.Policies.{policy_of}
use Rattle.policy_base.specs.Cases.{originated_cases}
use Rattle.policy_base.specs.CaseIndex.{kind_of}
use Rattle.policy_base.proofs.case_list.originated.Given as goal

abbrev pub invariant-loop-origin : goal.invariant-loop-origin
invariant-loop-origin l = record {
  kinds : l.kinds.keys ≡ map kind_of l.cases.items;
  rest : originated_cases (policy_of l.policy) l.origin-items [] ≡ originated_cases (policy_of l.policy) (drop l.origin-index l.origin-items) l.cases.items;
}
